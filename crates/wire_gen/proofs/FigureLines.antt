-- The amounts of a line of a lawful chart as its items.
use Rattle.std.proofs.Common.{option_map, ◌≡◌, ℕ, ◌+◌, ◌≤◌, true, List, Option, Some, None, refl, sym, ap, ◌∙◌, subst, arith}
use Rattle.chart_plans.specs.PlansWords.Plans.{Lists}
use Rattle.chart_rules.specs.Below.chart_line_rules.FieldRules.Fields.{field_named}
use Rattle.chart_rules.specs.Below.chart_line_rules.PrintRules.Items.{mark_shown, item_of, detail_item, total_item}
use Rattle.chart_lines.specs.ChartsWords.Field.{columns_of, decimals_of, is_amount}
use Rattle.chart_lines.specs.ChartsWords.Levels.{level_number}
use Rattle.chart_lines.specs.declared.charts.chart.Line.{Line}
use Rattle.chart_lines.specs.declared.charts.statement.DetailOption.{DetailOption}
use Rattle.chart_lines.specs.declared.charts.statement.Field.{Field}
use Rattle.chart_lines.specs.declared.charts.statement.FieldKind.{FieldKind}
use Rattle.chart_lines.specs.declared.charts.statement.FieldKind.TheVariants as holds
use Rattle.chart_lines.specs.declared.charts.statement.Mark.{Mark}
use Rattle.chart_lines.specs.declared.charts.statement.Statement.{Statement}
use Rattle.chart_lines.specs.declared.charts.statement.TotalLine.{TotalLine}
use Rattle.chart_lines.specs.declared.charts.statement.Statement.TheVariants as says
use Rattle.wiring_lines.specs.Below.wiring_table.Figures.{IsAmount, on_detail, on_total, IsFigure}
use Rattle.wiring_lines.specs.Below.wiring_table.Figures as figures
use Rattle.wiring_lines.specs.LineWires.HelperItems.{HasFigureWheels, DetailRanges, IsGoodDetail}
use Rattle.wiring_totals.specs.HelperTotals.{IsGoodTotal}
use Rattle.wire_gen.specs.HelperKnown.{IsGood, IsNamed}
use Rattle.chart_rules.specs.Below.chart_line_rules.FieldRules.Fields.{fields_of}
use Rattle.chart_rules.specs.Below.chart_line_rules.declared.print_rules.items.Figure.{Figure}
use Rattle.chart_rules.specs.Below.chart_line_rules.declared.print_rules.items.Item.{Item}
use Rattle.wiring_lines.specs.JacksAndTape.HelperJacks.{FiguresAre, IsGoodFigure, ItemWith}
use Rattle.wire_gen.proofs.Fields.{named-field, named-has}

module _ (lines : List Line) where
  -- a line that puts no amount anywhere
  none-are : (statement : Statement)
      → ((emitter wheel : ℕ) (figure : Figure) → IsFigure lines statement emitter wheel figure → ⊥)
      → ((item : Item) (figure : Figure) → item_of (fields_of lines) statement ≡ Some item → item.figure ≡ Some figure → ⊥)
      → FiguresAre lines statement
  none-are statement none none-item = record {
    good = λ emitter wheel figure is. absurd (none emitter wheel figure is);
    there = λ item figure is has. absurd (none-item item figure is has);
    back = λ emitter wheel figure is. absurd (none emitter wheel figure is);
  }

  no-figure : (item other : Item) (figure : Figure) → Some item ≡ Some other → item.figure ≡ None → other.figure ≡ Some figure → ⊥
  no-figure item other figure same none some_figure =
      let e : item ≡ other = cc in
      let f = ap (λ i. i.figure) e in
      let g = sym none ∙ f ∙ some_figure in cc

  detail-figure : (wheel : ℕ) (field : Field) (shown : DetailOption) (kind : FieldKind) → is_amount kind ≡ true
      → DetailRanges wheel field shown kind → HasFigureWheels wheel (columns_of field) (decimals_of field.kind) (mark_shown shown)
  detail-figure wheel field shown holds.Text is ranges = cc
  detail-figure wheel field shown (holds.Amount decimals rule) is ranges = ranges

  good-figure : (wheel digits decimals : ℕ) (mark : Option Mark) → HasFigureWheels wheel digits decimals mark → 1 ≤ digits
      → IsGoodFigure wheel (record { digits = digits; decimals = decimals; mark = mark })
  good-figure wheel digits decimals mark wheels many =
      let last = wheels.last in
      record { from = wheels.first; last = omega (arith, last); some_digits = many; whole = wheels.whole }

  as-figure : (statement : Statement) (emitter wheel : ℕ) (former latter : Figure) (first_wheel : ℕ) → wheel ≡ first_wheel
      → Some former ≡ Some latter → IsFigure lines statement emitter wheel former → IsFigure lines statement emitter first_wheel latter
  as-figure statement emitter wheel former latter first_wheel e f is =
      let same : former ≡ latter = cc in
      let P : Figure → Type 0 = λ x. IsFigure lines statement emitter first_wheel x in
      let Q : ℕ → Type 0 = λ x. IsFigure lines statement emitter x former in
      subst P same (subst Q e is)

  detail-are : (wheel : ℕ) (name : List ℕ) (shown : DetailOption) → IsNamed (field_named lines name) (IsGoodDetail wheel shown)
      → FiguresAre lines (says.DetailField wheel name shown)
  detail-are wheel name shown named_good = record {
    good = detail-fine;
    there = λ item figure is has. (4, onward item figure is has);
    back = back-again;
  }
    where
      detail-fine : (emitter at : ℕ) (figure : Figure) → IsFigure lines (says.DetailField wheel name shown) emitter at figure
          → IsGoodFigure at figure
      detail-fine emitter at figure (figures.IsFigure.on_detail _ _ _ field is) =
          let known = named-has (field_named lines name) (IsGoodDetail wheel shown) named_good field is.named in
          let order = known.card.order in
          good-figure wheel (columns_of field) (decimals_of field.kind) (mark_shown shown)
          (detail-figure wheel field shown field.kind is.holds_amount known.wheels) (omega (arith, order))

      by : (field : Field) (item : Item) (figure : Figure) → field_named lines name ≡ Some field → (kind : FieldKind)
          → field.kind ≡ kind → Some (detail_item wheel shown (columns_of field) kind) ≡ Some item → item.figure ≡ Some figure
          → IsFigure lines (says.DetailField wheel name shown) 4 item.first figure
      by field item figure named holds.Text is_kind is has =
          absurd (no-figure (detail_item wheel shown (columns_of field) holds.Text) item figure is refl has)
      by field item figure named (holds.Amount decimals rule) is_kind is has =
          let e : detail_item wheel shown (columns_of field) (holds.Amount decimals rule) ≡ item = cc in
          let amount : IsAmount lines name field = record { named = named; holds_amount = ap is_amount is_kind } in
          let decimals_are : decimals_of field.kind ≡ decimals = ap decimals_of is_kind in
          as-figure (says.DetailField wheel name shown) 4 wheel
          (record { digits = columns_of field; decimals = decimals_of field.kind; mark = mark_shown shown }) figure item.first
          (ap (λ i. i.first) e)
          (ap (λ d. Some (record { digits = columns_of field; decimals = d; mark = mark_shown shown })) decimals_are
          ∙ ap (λ i. i.figure) e ∙ has)
          (figures.IsFigure.on_detail wheel name shown field amount)

      onward : (item : Item) (figure : Figure) → item_of (fields_of lines) (says.DetailField wheel name shown) ≡ Some item
          → item.figure ≡ Some figure → IsFigure lines (says.DetailField wheel name shown) 4 item.first figure
      onward item figure is has =
          let known = named-field (field_named lines name) (IsGoodDetail wheel shown) named_good in
          by known.0 item figure known.1 known.0.kind refl
          (sym (ap (option_map (λ f. detail_item wheel shown (columns_of f) f.kind)) known.1) ∙ is) has

      item-with : (field : Field) (kind : FieldKind) → is_amount kind ≡ true
          → (((detail_item wheel shown (columns_of field) kind).first) ≡ wheel)
          × (((detail_item wheel shown (columns_of field) kind).figure)
          ≡ Some (record { digits = columns_of field; decimals = decimals_of kind; mark = mark_shown shown }))
      item-with field holds.Text is = cc
      item-with field (holds.Amount decimals rule) is = (refl, refl)

      back-again : (emitter at : ℕ) (figure : Figure) → IsFigure lines (says.DetailField wheel name shown) emitter at figure
          → ItemWith lines (says.DetailField wheel name shown) at figure
      back-again emitter at figure (figures.IsFigure.on_detail _ _ _ field is) =
          let with_it = item-with field field.kind is.holds_amount in
          record {
            item = detail_item wheel shown (columns_of field) field.kind;
            is_item = ap (option_map (λ f. detail_item wheel shown (columns_of f) f.kind)) is.named;
            from = with_it.0;
            has = with_it.1;
          }

  amount-are : (plan : Lists) (number : ℕ) (total : TotalLine)
      → IsNamed (field_named lines total.name) (IsGoodTotal lines plan number total)
      → FiguresAre lines (says.TotalAmount total)
  amount-are plan number total named_good = record {
    good = total-fine;
    there = λ item figure is has. (4 + level_number total.level, onward item figure is has);
    back = back-again;
  }
    where
      total-fine : (emitter at : ℕ) (figure : Figure) → IsFigure lines (says.TotalAmount total) emitter at figure
          → IsGoodFigure at figure
      total-fine emitter at figure (figures.IsFigure.on_total _ field is) =
          let known = named-has (field_named lines total.name) (IsGoodTotal lines plan number total) named_good field is.named in
          let order = known.card.order in
          let enough = known.enough in
          good-figure total.wheel total.digits (decimals_of field.kind) total.mark known.wheels (omega (arith, order, enough))

      onward : (item : Item) (figure : Figure)
          → item_of (fields_of lines) (says.TotalAmount total) ≡ Some item
          → item.figure ≡ Some figure
          → IsFigure lines (says.TotalAmount total) (4 + level_number total.level) item.first figure
      onward item figure is has =
          let known = named-field (field_named lines total.name) (IsGoodTotal lines plan number total) named_good in
          let said = sym (ap (option_map (λ f. total_item total f.kind)) known.1) ∙ is in
          let e : total_item total known.0.kind ≡ item = cc in
          let amount : IsAmount lines total.name known.0 = record { named = known.1; holds_amount = known.2.holds_amount } in
          as-figure (says.TotalAmount total) (4 + level_number total.level) total.wheel
          (record { digits = total.digits; decimals = decimals_of known.0.kind; mark = total.mark }) figure item.first
          (ap (λ i. i.first) e) (ap (λ i. i.figure) e ∙ has)
          (figures.IsFigure.on_total total known.0 amount)

      back-again : (emitter at : ℕ) (figure : Figure) → IsFigure lines (says.TotalAmount total) emitter at figure
          → ItemWith lines (says.TotalAmount total) at figure
      back-again emitter at figure (figures.IsFigure.on_total _ field is) =
          record {
            item = total_item total field.kind;
            is_item = ap (option_map (λ f. total_item total f.kind)) is.named;
            from = refl;
            has = refl;
          }

  text-none : (found : Option Field) (item : Item) (figure : Figure) (make : Field → Item) → ((field : Field) → (make field).figure ≡ None)
      → option_map make found ≡ Some item → item.figure ≡ Some figure → ⊥
  text-none None item figure make none is has = cc
  text-none (Some field) item figure make none is has = no-figure (make field) item figure is (none field) has

  -- the amounts of a line of which enough is known
  pub figures-are : (plan : Lists) (number : ℕ) (statement : Statement) → IsGood lines plan number statement
      → FiguresAre lines statement
  figures-are plan number (says.DetailField wheel name shown) is = detail-are wheel name shown is
  figures-are plan number (says.TotalAmount total) is = amount-are plan number total is
  figures-are plan number (says.TotalText level wheel name) is =
      none-are (says.TotalText level wheel name) (λ emitter at figure wrong. elim wrong [ ])
      (λ item figure. text-none (field_named lines name) item figure _ (λ field. refl))
  figures-are plan number (says.Head line wheel text) is =
      none-are (says.Head line wheel text) (λ emitter at figure wrong. elim wrong [ ]) (λ item figure same has. no-figure _ item figure same refl has)
  figures-are plan number (says.DetailLiteral wheel text) is =
      none-are (says.DetailLiteral wheel text) (λ emitter at figure wrong. elim wrong [ ]) (λ item figure same has. no-figure _ item figure same refl has)
  figures-are plan number (says.TotalLiteral level wheel text) is =
      none-are (says.TotalLiteral level wheel text) (λ emitter at figure wrong. elim wrong [ ]) (λ item figure same has. no-figure _ item figure same refl has)
  figures-are plan number other is = none-are other (λ emitter at figure wrong. elim wrong [ ]) (λ item figure same has. cc)
