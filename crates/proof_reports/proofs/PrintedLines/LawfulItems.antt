-- What a lawful chart keeps of its items: where they stand, and how many digits amounts have.
use Rattle.std.proofs.Common.{◌≡◌, ◌∙◌, refl, sym, ap, subst, ℕ, ◌≤◌, ◌&&◌, ◌||◌, false, Contains, Option, Some, None, option_map, arith}
use Rattle.std.proofs.lemmas.Bool.Decides.{nat_tests}
use Rattle.wiring_table.specs.Below.chart_lines.ChartsWords.Chart.{Chart}
use Rattle.wiring_table.specs.Below.chart_lines.ChartsWords.Field.{columns_of, decimals_of}
use Rattle.wiring_table.specs.Below.chart_lines.declared.charts.chart.Line.{Line}
use Rattle.wiring_table.specs.Below.chart_lines.declared.charts.statement.DetailOption.{DetailOption}
use Rattle.wiring_table.specs.Below.chart_lines.declared.charts.statement.Field.{Field}
use Rattle.wiring_table.specs.Below.chart_lines.declared.charts.statement.FieldKind.{FieldKind}
use Rattle.wiring_table.specs.Below.chart_lines.declared.charts.statement.FieldKind.TheVariants as holds
use Rattle.wiring_table.specs.Below.chart_lines.declared.charts.statement.Statement.{Statement}
use Rattle.wiring_table.specs.Below.chart_lines.declared.charts.statement.TotalLine.{TotalLine}
use Rattle.wiring_table.specs.Below.chart_lines.declared.charts.statement.Statement.TheVariants as says
use Rattle.wiring_table.specs.Below.chart_line_rules.declared.print_rules.items.Figure.{Figure}
use Rattle.wiring_table.specs.Below.chart_line_rules.declared.print_rules.items.Item.{Item}
use Rattle.wiring_table.specs.Below.chart_rules.declared.rule.Rule.TheVariants as rule
use Rattle.wiring_table.specs.Below.chart_line_rules.FieldRules.Digits.{breaks_digits_range, is_out_of_digits}
use Rattle.wiring_table.specs.Below.chart_line_rules.FieldRules.Fields.{fields_of, field_named}
use Rattle.wiring_table.specs.Below.chart_line_rules.declared.print_rules.items.PrintedLine.TheVariants.{Body}
use Rattle.wiring_table.specs.Below.chart_lines.declared.charts.statement.BodyLine.TheVariants as body
use Rattle.wiring_table.specs.Below.chart_line_rules.PrintRules.Items.{item_of, mark_shown, text_item, detail_item, total_item}
use Rattle.wiring_table.specs.Below.chart_rules.Rules.{IsLawful}
use Rattle.wiring_table.specs.Below.chart_line_rules.PrintRules.Wheels.{is_off_wheels}
use Rattle.wiring_table.proofs.Below.chart_rules.Laws.{IsGoodField, good-field, kept-line}
use Rattle.wiring_table.proofs.Below.chart_line_rules.FieldRules.DigitsKept.{digits-kept}

-- An item stands on wheels of the machine.
pub record IsOnWheels (item : Item) : Type 0 where
  pub first : 1 ≤ item.first
  pub end : item.end ≤ 121

pub item-on_wheels : (chart : Chart) → IsLawful chart → (line : Line) (item : Item) → Contains chart.lines line
    → item_of (fields_of chart.lines) line.statement ≡ Some item → IsOnWheels item
item-on_wheels chart lawful line item there is =
    let kept : is_off_wheels (Some item) ≡ false = sym (ap is_off_wheels is) ∙ (kept-line chart lawful line there rule.WheelRange).1 in
    record { first = grind (arith, nat_tests, kept); end = grind (arith, nat_tests, kept) }

-- An amount has a digit, and no more decimals than digits.
pub record IsGoodFigure (figure : Figure) : Type 0 where
  pub some : 1 ≤ figure.digits
  pub decimals : figure.decimals ≤ figure.digits

-- the amounts of a lawful chart are good
pub figure-good : (chart : Chart) → IsLawful chart → (line : Line) (item : Item) (figure : Figure) → Contains chart.lines line
    → item_of (fields_of chart.lines) line.statement ≡ Some item → item.figure ≡ Some figure → IsGoodFigure figure
figure-good chart lawful line item figure there is has = by line.statement (kept-line chart lawful line there rule.DigitsRange).1 is
  where
    -- the figure of the item is this one
    is_good : (other : Figure) → Some other ≡ item.figure → IsGoodFigure other → IsGoodFigure figure
    is_good other same good =
        let equal : Some other ≡ Some figure = same ∙ has in
        let is : other ≡ figure = cc in
        subst IsGoodFigure is good

    detail : (wheel : ℕ) (shown : DetailOption) (field : Field) (kind : FieldKind) → IsGoodField field
        → field.kind ≡ kind → detail_item wheel shown (columns_of field) kind ≡ item → IsGoodFigure figure
    detail wheel shown field holds.Text good kind same =
        let none : None ≡ item.figure = ap (λ (i : Item). i.figure) same in cc
    detail wheel shown field (holds.Amount decimals rule) good kind same =
        is_good (record { digits = columns_of field; decimals = decimals; mark = mark_shown shown })
        (ap (λ (i : Item). i.figure) same)
        (record {
          some = let order = good.card.order in omega (arith, order);
          decimals = subst (λ (k : FieldKind). decimals_of k ≤ columns_of field) kind good.decimals;
        })

    total : (asked : TotalLine) (field : Field) → IsGoodField field → is_out_of_digits (Some field) asked.digits ≡ false
        → total_item asked field.kind ≡ item → IsGoodFigure figure
    total asked field good kept same =
        is_good (record { digits = asked.digits; decimals = decimals_of field.kind; mark = asked.mark })
        (ap (λ (i : Item). i.figure) same)
        (let order = good.card.order in
        let few = good.decimals in
        let enough = (digits-kept field asked.digits kept).enough in
        record { some = omega (arith, order, enough); decimals = omega (arith, few, enough) })

    by : (statement : Statement) → breaks_digits_range (fields_of chart.lines) statement ≡ false
        → item_of (fields_of chart.lines) statement ≡ Some item → IsGoodFigure figure
    by (says.Head its_line wheel literal) kept is = cc
    by (says.DetailLiteral wheel literal) kept is = cc
    by (says.TotalLiteral level wheel literal) kept is = cc
    by (says.DetailField wheel name shown) kept is = named (field_named chart.lines name) refl is
      where
        named : (o : Option Field) → field_named chart.lines name ≡ o
            → option_map (λ field. detail_item wheel shown (columns_of field) field.kind) o ≡ Some item → IsGoodFigure figure
        named None none is = cc
        named (Some field) there is =
            detail wheel shown field field.kind (good-field chart lawful name field there) refl cc
    by (says.TotalText level wheel name) kept is = named (field_named chart.lines name) is
      where
        named : (o : Option Field) → option_map (λ field. text_item (Body (body.Total level)) wheel (columns_of field)) o ≡ Some item
            → IsGoodFigure figure
        named None is = cc
        named (Some field) is = cc
    by (says.TotalAmount asked) kept is = named (field_named chart.lines asked.name) refl kept is
      where
        named : (o : Option Field) → field_named chart.lines asked.name ≡ o → is_out_of_digits o asked.digits ≡ false
            → option_map (λ field. total_item asked field.kind) o ≡ Some item → IsGoodFigure figure
        named None none kept is = cc
        named (Some field) there kept is =
            total asked field (good-field chart lawful asked.name field there) kept cc
    by other kept is = cc
