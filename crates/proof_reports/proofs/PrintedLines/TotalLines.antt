-- The total line of a level: what the chart's lines send to it comes from their items, and spells what the report puts there.
use Rattle.std.proofs.Common.{◌≡◌, ◌∙◌, refl, ap, subst, ℕ, ◌==◌, if◌then◌else◌, Bool, true, false, List, length, map, Contains, Option, Some, None, option_map, arith}
use Rattle.std.proofs.lemmas.Bool.{not-false}
use Rattle.std.proofs.lemmas.Bool.Decides.{nat_tests}
use Rattle.wiring_table.specs.Below.chart_lines.ChartsWords.Chart.{Chart}
use Rattle.wiring_table.specs.Below.chart_lines.ChartsWords.Field.{columns_of, decimals_of, is_amount}
use Rattle.wiring_table.specs.Below.chart_lines.ChartsWords.Levels.{level_number}
use Rattle.wiring_table.specs.Below.chart_lines.ChartsWords.Literals.{HaveLiteralTexts, literal_in}
use Rattle.wiring_table.specs.Below.chart_lines.declared.charts.chart.Line.{Line}
use Rattle.wiring_table.specs.Below.chart_lines.declared.charts.level.Level.{Level}
use Rattle.wiring_table.specs.Below.chart_lines.declared.charts.statement.BodyLine.TheVariants as body
use Rattle.wiring_table.specs.Below.chart_lines.declared.charts.statement.Field.{Field}
use Rattle.wiring_table.specs.Below.chart_lines.declared.charts.statement.Statement.{Statement}
use Rattle.wiring_table.specs.Below.chart_lines.declared.charts.statement.TotalLine.{TotalLine}
use Rattle.wiring_table.specs.Below.chart_lines.declared.charts.statement.Statement.TheVariants as says
use Rattle.wiring_table.specs.Below.chart_line_rules.declared.print_rules.items.Figure.{Figure}
use Rattle.wiring_table.specs.Below.chart_line_rules.declared.print_rules.items.PrintedLine.{PrintedLine}
use Rattle.wiring_table.specs.Below.chart_line_rules.declared.print_rules.items.PrintedLine.TheVariants.{Heading, Body}
use Rattle.wiring_table.specs.Below.chart_rules.declared.rule.Rule.TheVariants as rule
use Rattle.wiring_table.specs.Below.chart_line_rules.FieldRules.Fields.{fields_of, field_named}
use Rattle.wiring_table.specs.Below.chart_line_rules.PrintRules.Items.{is_same_line, text_item, total_item}
use Rattle.wiring_table.specs.Below.chart_line_rules.FieldRules.Names.{breaks_wrong_kind, names_text}
use Rattle.wiring_table.specs.Below.chart_rules.Rules.{IsLawful}
use Rattle.wiring_table.specs.Below.chart_rules.ValidCard.{column_of}
use Rattle.wiring_table.specs.Below.chart_line_rules.PrintRules.Wheels.{is_body}
use Rattle.wiring_table.proofs.Below.chart_rules.Laws.{good-field, kept-line}
use Rattle.report_definition.specs.Amounts.{columns_in}
use Rattle.report_definition.specs.BodyLines.{piece_at, total_piece, text_on, a_card_of}
use Rattle.report_definition.specs.Edits.{last_digits, edited}
use Rattle.report_definition.specs.Totals.{total_of}
use Rattle.wiring_table.specs.Figures.{on_total, total_emitter}
use Rattle.proof_reports.specs.PrintedLines.Held.{HoldsLine}
use Rattle.proof_reports.specs.PrintedLines.Laws.{TotalLinesPrint}
use Rattle.proof_reports.specs.PrintedLines.Shown.{Shown, Characters, Amount, Printed, total_sends, set_of_character}
use Rattle.proof_reports.proofs.PrintedLines.AmountLines.{total-amount, last_digits-length}
use Rattle.proof_reports.proofs.PrintedLines.Lines.{SpellsPiece, body-line}
use Rattle.proof_reports.proofs.PrintedLines.Sending.{IsItems, IsSending}
use Rattle.proof_reports.proofs.PrintedLines.Spelled.{literal-spelled, columns-spelled, literal-item, text-item, amount-item}

-- the items of totals of a level stand on its total line
abbrev pub on_total_line : ℕ → PrintedLine → Bool
on_total_line level (Body (body.Total its_level)) = level_number its_level == level
on_total_line level other = false

total-line : (level : ℕ) (first second : PrintedLine) → on_total_line level first ≡ true → on_total_line level second ≡ true
    → is_same_line first second ≡ true
total-line level (Body (body.Total one)) (Body (body.Total other)) on also = grind (arith, nat_tests, on, also)
total-line level other another on also = cc

total-body : (level : ℕ) (on : PrintedLine) → on_total_line level on ≡ true → is_body on ≡ true
total-body level (Body (body.Total its_level)) on = refl
total-body level (Body body.Detail) on = cc
total-body level (Heading heading) on = cc

-- what is sent to a total line comes from its items
total-items : (lines : List Line) (level : ℕ) (held : List ℕ → Printed) (card : List ℕ) (statement : Statement) (shown : Shown)
    → breaks_wrong_kind (fields_of lines) statement ≡ false → total_sends lines level held card statement ≡ Some shown
    → IsItems lines (on_total_line level) statement shown
total-items lines level held card (says.TotalLiteral its_level wheel literal) shown kept sent =
    by (level_number its_level == level) refl sent
  where
    by : (b : Bool) → (level_number its_level == level) ≡ b
        → (if b then Some (Characters wheel (map set_of_character literal)) else None) ≡ Some shown
        → IsItems lines (on_total_line level) (says.TotalLiteral its_level wheel literal) shown
    by false on sent = cc
    by true on sent =
        let is : Characters wheel (map set_of_character literal) ≡ shown = cc in
        subst (IsItems lines (on_total_line level) (says.TotalLiteral its_level wheel literal)) is
        (record {
          amount = tt;
          line = Body (body.Total its_level);
          is_on = on;
          is_item = literal-item (Body (body.Total its_level)) wheel literal;
        })
total-items lines level held card (says.TotalText its_level wheel name) shown kept sent =
    by (level_number its_level == level) (field_named lines name) refl refl sent
  where
    by : (b : Bool) (o : Option Field) → (level_number its_level == level) ≡ b → field_named lines name ≡ o
        → (if b then option_map (λ field. Characters wheel (map (column_of card) (columns_in field))) o else None) ≡ Some shown
        → IsItems lines (on_total_line level) (says.TotalText its_level wheel name) shown
    by false o on named sent = cc
    by true None on named sent = cc
    by true (Some field) on named sent =
        let is : Characters wheel (map (column_of card) (columns_in field)) ≡ shown = cc in
        subst (IsItems lines (on_total_line level) (says.TotalText its_level wheel name)) is
        (record {
          amount = tt;
          line = Body (body.Total its_level);
          is_on = on;
          is_item =
              ap (option_map (λ f. text_item (Body (body.Total its_level)) wheel (columns_of f))) named
              ∙ text-item (Body (body.Total its_level)) wheel card field;
        })
total-items lines level held card (says.TotalAmount total) shown kept sent =
    by (level_number total.level == level) (field_named lines total.name) refl refl kept sent
  where
    figure : Field → Figure
    figure field = record { digits = total.digits; decimals = decimals_of field.kind; mark = total.mark }

    columns : List (Option ℕ)
    columns = map Some (last_digits total.digits (held total.name).figure)

    by : (b : Bool) (o : Option Field) → (level_number total.level == level) ≡ b → field_named lines total.name ≡ o
        → names_text o ≡ false
        → (if b then option_map (λ field. Amount total.wheel (figure field) columns (held total.name).latch) o else None) ≡ Some shown
        → IsItems lines (on_total_line level) (says.TotalAmount total) shown
    by false o on named kept sent = cc
    by true None on named kept sent = cc
    by true (Some field) on named kept sent =
        let is : Amount total.wheel (figure field) columns (held total.name).latch ≡ shown = cc in
        let long : length columns ≡ total.digits = last_digits-length total.digits (held total.name).figure in
        subst (IsItems lines (on_total_line level) (says.TotalAmount total)) is
        (record {
          amount = (
            total_emitter (level_number total.level),
            on_total total field
                (record { named = named; holds_amount = not-false (is_amount field.kind) kept }),
            long,
          );
          line = Body (body.Total total.level);
          is_on = on;
          is_item =
              ap (option_map (λ f. total_item total f.kind)) named
              ∙ amount-item (Body (body.Total total.level)) total.wheel (figure field) columns (held total.name).latch long;
        })
total-items lines level held card other shown kept sent = cc

pub total-sending : (chart : Chart) → IsLawful chart → (level : ℕ) (held : List ℕ → Printed) (card : List ℕ)
    → IsSending chart.lines (on_total_line level) (total_sends chart.lines level held card)
total-sending chart lawful level held card = record {
  one = total-line level;
  items = λ line shown there sent.
      total-items chart.lines level held card line.statement shown (kept-line chart lawful line there rule.WrongKind).1 sent;
}

-- each line of the chart spells what the report puts on the total line of a group
total-spells : (chart : Chart) (level : ℕ) (group : List (List ℕ)) (held : List ℕ → Printed) (card : List ℕ) → IsLawful chart
    → HaveLiteralTexts chart.lines → HoldsLine chart.lines level group held card → (line : Line) → Contains chart.lines line
    → SpellsPiece (total_sends chart.lines level held card line.statement) (total_piece chart.lines level group line.statement)
total-spells chart level group held card lawful texts holds line there = by line.statement refl
  where
    literal_on : (wheel : ℕ) (literal : List ℕ) → literal_in line.statement ≡ Some literal → (b : Bool)
        → SpellsPiece (if b then Some (Characters wheel (map set_of_character literal)) else None)
        (if b then Some (piece_at wheel literal) else None)
    literal_on wheel literal is true = (refl, literal-spelled literal (texts line literal there is).printable)
    literal_on wheel literal is false = tt

    text_held : (its_level : Level) (wheel : ℕ) (name : List ℕ) → line.statement ≡ says.TotalText its_level wheel name
        → (b : Bool) (o : Option Field) → (level_number its_level == level) ≡ b → field_named chart.lines name ≡ o
        → SpellsPiece (if b then option_map (λ field. Characters wheel (map (column_of card) (columns_in field))) o else None)
        (if b then option_map (λ field. piece_at wheel (text_on (a_card_of group) field)) o else None)
    text_held its_level wheel name is false o on named = tt
    text_held its_level wheel name is true None on named = tt
    text_held its_level wheel name is true (Some field) on named =
        let text = holds.texts line its_level wheel name field there is (grind (arith, nat_tests, on)) named in
        let order = (good-field chart lawful name field named).card.order in (
          refl,
          columns-spelled card (a_card_of group) field.first (columns_of field)
              (λ column low high. text.same column low (omega (arith, high, order)))
              (λ column low high. text.is_text column low (omega (arith, high, order))),
        )

    amount_held : (total : TotalLine)
        → line.statement ≡ says.TotalAmount total
        → (b : Bool) (o : Option Field) → (level_number total.level == level) ≡ b → field_named chart.lines total.name ≡ o
        → SpellsPiece
        (if b then option_map
        (λ field. Amount total.wheel (record { digits = total.digits; decimals = decimals_of field.kind; mark = total.mark })
        (map Some (last_digits total.digits (held total.name).figure)) (held total.name).latch) o else None)
        (if b then option_map (λ field. piece_at total.wheel (edited (total_of field group) total.digits (decimals_of field.kind) total.mark)) o else None)
    amount_held total is false o on named = tt
    amount_held total is true None on named = tt
    amount_held total is true (Some field) on named = (
      refl,
      total-amount total.wheel total.digits (decimals_of field.kind) total.mark (total_of field group) (held total.name)
          (holds.amounts line total field there is (grind (arith, nat_tests, on)) named),
    )

    by : (statement : Statement) → line.statement ≡ statement
        → SpellsPiece (total_sends chart.lines level held card statement) (total_piece chart.lines level group statement)
    by (says.TotalLiteral its_level wheel literal) is =
        literal_on wheel literal (ap literal_in is) (level_number its_level == level)
    by (says.TotalText its_level wheel name) is =
        text_held its_level wheel name is (level_number its_level == level) (field_named chart.lines name) refl refl
    by (says.TotalAmount total) is =
        amount_held total is (level_number total.level == level) (field_named chart.lines total.name) refl refl
    by other is = tt

-- the total line of a group prints as the report has it
pub total_lines : TotalLinesPrint
total_lines chart link suppress symbol level group held card lawful texts jacks holds =
    body-line chart link suppress symbol (on_total_line level) (total_sends chart.lines level held card)
    (total_piece chart.lines level group)
    (record { lawful = lawful; jacks = jacks; body = total-body level; sending = total-sending chart lawful level held card })
    (total-spells chart level group held card lawful texts holds)
