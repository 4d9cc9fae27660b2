-- The texts of the line of a card are read off each panel that is wired for their chart.
use Rattle.std.proofs.Common.{◌≡◌, ◌∙◌, ◌<◌, ◌≤◌, ◌||◌, inl, inr, refl, sym, ap, subst, arith, ℕ, ◌+◌, Bool, true, false, List, [], ◌∷◌, Contains, Some, option_map, not}
use Rattle.std.proofs.lemmas.Bool.{or_right}
use Rattle.std.proofs.lemmas.Option.{same_Some}
use Rattle.std.specs.List.{list_any}
use Rattle.chart_rules.proofs.Laws.{kept-line, lacks-lawful}
use Rattle.chart_rules.specs.Rules.{IsLawful}
use Rattle.chart_rules.specs.declared.rule.Rule.TheVariants as rule
use Rattle.chart_lines.specs.ChartsWords.Chart.{Chart}
use Rattle.chart_lines.specs.ChartsWords.Field.{columns_of, decimals_of, is_amount}
use Rattle.chart_lines.specs.ChartsWords.Levels.{level_number}
use Rattle.chart_lines.specs.declared.charts.chart.Line.{Line}
use Rattle.chart_lines.specs.declared.charts.statement.BodyLine.TheVariants as body
use Rattle.chart_lines.specs.declared.charts.statement.DetailOption.TheVariants as shown
use Rattle.chart_lines.specs.declared.charts.statement.Field.{Field}
use Rattle.chart_lines.specs.declared.charts.statement.FieldKind.{FieldKind}
use Rattle.chart_lines.specs.declared.charts.statement.FieldKind.TheVariants as holds
use Rattle.chart_lines.specs.declared.charts.statement.Printing.TheVariants as prints
use Rattle.chart_lines.specs.declared.charts.statement.Statement.{Statement}
use Rattle.chart_lines.specs.declared.charts.statement.Statement.TheVariants as says
use Rattle.chart_line_rules.specs.FieldRules.Fields.{field_named, fields_of}
use Rattle.hubs.specs.declared.hub.Hub.TheVariants as hub
use Rattle.hubs.specs.declared.jack.Jack.TheVariants as jack
use Rattle.proof_laws.proofs.PanelLaws.DigitWheels.{on_wheels}
use Rattle.proof_laws.proofs.PanelLaws.HubRanges.{column_range, wheel_range}
use Rattle.proof_laws.proofs.PanelLaws.ToWheels.{ColumnOf, column_of, of_amount, of_text}
use Rattle.proof_laws.specs.PanelLaws.CardTexts.{PutsColumn, ReadsCardTexts}
use Rattle.match_plans.proofs.Asked.{asks}
use Rattle.match_plans.proofs.Inverse.{digit-of}
use Rattle.match_plans.specs.Wired.{IsWiredBy}
use Rattle.readback_panels.specs.Shown.{HasUnitsOn, IsAmountWheel, IsColumnOn, ShowsColumn, ShowsColumns}
use Rattle.readback_panels.specs.Zones.{IsInZone}
use Rattle.readback_panels.specs.declared.draft.Draft.{Draft}
use Rattle.chart_plans.specs.PlansWords.Plans.{Lists}
use Rattle.chart_line_rules.specs.PrintRules.Items.{detail_item, figure_item, figure_width, item_of, mark_shown, text_item}
use Rattle.chart_line_rules.specs.PrintRules.Printing.{breaks_print_kind, has_print, is_print, is_print_group, prints_group}
use Rattle.chart_line_rules.specs.declared.print_rules.items.Figure.{Figure}
use Rattle.chart_line_rules.specs.declared.print_rules.items.PrintedLine.TheVariants.{Body}
use Rattle.proof_reports.proofs.PrintedLines.Jacks.{FigureItem, FigureItem-has, plugs-link}
use Rattle.proof_reports.proofs.PrintedLines.Meeting.{one-line, same-or-agree}
use Rattle.proof_reports.proofs.PrintedLines.OwnJacks.{no-amount}
use Rattle.report_definition.specs.ChartForm.{is_print_detail, prints_details}
use Rattle.hubs.specs.SetupsWords.Wiring.{HasJack, HasWire, Wiring}
use Rattle.wiring_table.specs.Figures.{IsFigure, IsText, detail_emitter, on_detail, on_total, total_emitter}
use Rattle.wiring_table.specs.Jacks.{HasFigure, list}
use Rattle.wiring_table.specs.Wires.{ChartWire}
use Rattle.wiring_table.specs.Wires.LineWire.{detail_text}

not-false : (b : Bool) → not b ≡ false → b ≡ true
not-false true is = refl
not-false false is = sym is

-- a chart with a PRINT line, and none that prints totals alone, prints the lines of cards
print_detail : (statement : Statement) → is_print statement ≡ true → is_print_group statement ≡ false → is_print_detail statement ≡ true
print_detail (says.Print prints.Detail) is absent = refl
print_detail (says.Print prints.Group) is absent = cc
print_detail other is absent = cc

prints-details : (lines : List Line) → list_any (λ line. is_print line.statement) lines ≡ true → prints_group lines ≡ false
    → prints_details lines ≡ true
prints-details [] some absent = cc
prints-details (line ∷ lines) some absent =
    by (is_print line.statement) refl (is_print_group line.statement) refl (list_any (λ l. is_print l.statement) lines) refl
    (prints_group lines) refl (λ s n. prints-details lines s n) some absent
  where
    by : (p : Bool) → is_print line.statement ≡ p → (g : Bool) → is_print_group line.statement ≡ g
        → (ps : Bool) → list_any (λ l. is_print l.statement) lines ≡ ps → (gs : Bool) → prints_group lines ≡ gs
        → (list_any (λ l. is_print l.statement) lines ≡ true → prints_group lines ≡ false → prints_details lines ≡ true)
        → (p || ps) ≡ true → (g || gs) ≡ false → (is_print_detail line.statement || prints_details lines) ≡ true
    by true p false g ps e gs f rest some absent = rw (print_detail line.statement p g) refl
    by false p false g true e false f rest some absent = or_right _ _ (rest e f)
    by false p false g false e gs f rest some absent = cc
    by false p false g true e true f rest some absent = cc
    by other p true g ps e gs f rest some absent = cc

module _ (chart : Chart) (plan : Lists) (setup : Wiring) (lawful : IsLawful chart) (wired : IsWiredBy chart.lines setup plan) where
  -- the item of a text on the line of a card
  text-is : (line : Line) (first : ℕ) (name : List ℕ) (field : Field) → line.statement ≡ says.DetailField first name shown.Plain
      → IsText chart.lines name field
      → item_of (fields_of chart.lines) line.statement ≡ Some (text_item (Body body.Detail) first (columns_of field))
  text-is line first name field says_it text =
      ap (item_of (fields_of chart.lines)) says_it
      ∙ ap (option_map (λ (its : Field). detail_item first shown.Plain (columns_of its) its.kind)) text.named
      ∙ by field.kind text.holds_text
    where
      by : (kind : FieldKind) → is_amount kind ≡ false
          → Some (detail_item first shown.Plain (columns_of field) kind) ≡ Some (text_item (Body body.Detail) first (columns_of field))
      by holds.Text is = refl
      by (holds.Amount decimals its) is = cc

  module _ (wheel column : ℕ) (puts : PutsColumn chart.lines wheel column) where
    -- no amount stands on a wheel of it
    no-figure : (first : ℕ) (figure : Figure) → FigureItem chart.lines first figure → first ≤ wheel → wheel < first + figure_width figure → ⊥
    no-figure first figure item from to =
        no-amount (text_item (Body body.Detail) puts.first (columns_of puts.field)) (figure_item item.on first figure) figure refl refl
        (same-or-agree chart lawful puts.line item.line (text_item (Body body.Detail) puts.first (columns_of puts.field))
        (figure_item item.on first figure) wheel puts.listed item.there
        (text-is puts.line puts.first puts.name puts.field puts.says_text puts.is_text) item.is_item refl item.is_body_line
        (omega (arith, puts.wheel_is), omega (arith, puts.wheel_is, puts.within)) (from, to))

    no-zone : IsInZone setup wheel → ⊥
    no-zone (inl linked) =
        let its = plugs-link chart.lines wheel ((wired.wired.jacks (jack.Link wheel)).0 linked.plugged) in
        no-figure its.wheel its.figure its.item (omega (arith, its.inside_it.0)) its.inside_it.1
    no-zone (inr linked) =
        let its = plugs-link chart.lines (wheel + 1) ((wired.wired.jacks (jack.Link (wheel + 1))).0 linked.plugged) in
        no-figure its.wheel its.figure its.item (omega (arith, its.inside_it.0)) (omega (arith, its.inside_it.1))

    no-units : HasUnitsOn setup wheel → ⊥
    no-units on =
        let wire : ChartWire chart.lines plan (hub.GX on.group 1) (hub.W wheel) =
        (wired.wired.wires (hub.GX on.group 1) (hub.W wheel)).0 on.units in
        let digit = digit-of chart.lines plan on.group wheel wire.wire refl refl in
        let figure : Figure =
        record { digits = digit.asked.digits; decimals = decimals_of digit.field.kind; mark = digit.asked.mark } in
        let wheels = on_wheels digit.asked.wheel digit.position figure digit.from digit.to in
        let emitter : ℕ = total_emitter (level_number digit.asked.level) in
        let has : HasFigure chart.lines digit.asked.wheel figure = record {
          line = wire.line;
          listed = wire.listed;
          emitter = emitter;
          is_figure =
              subst (λ (s : Statement). IsFigure chart.lines s emitter digit.asked.wheel figure) (sym digit.says_total)
              (on_total digit.asked digit.field digit.amount);
        } in
        no-figure digit.asked.wheel figure (FigureItem-has chart.lines digit.asked.wheel figure has)
        (subst (λ (v : ℕ). digit.asked.wheel ≤ v) digit.at wheels.0)
        (subst (λ (v : ℕ). v < digit.asked.wheel + figure_width figure) digit.at wheels.1)

    no-amount-on : ¬ IsAmountWheel setup wheel
    no-amount-on (inl zone) = no-zone zone
    no-amount-on (inr units) = no-units units

    -- no other column leads to the wheel
    one-column : (other : ℕ) (line : Line) → Contains chart.lines line → ColumnOf chart.lines line.statement other wheel → other ≡ column
    one-column other line listed (of_text first name field place says_it text within column_is wheel_is) =
        let same : puts.line ≡ line =
        one-line chart lawful puts.line line (text_item (Body body.Detail) puts.first (columns_of puts.field))
        (text_item (Body body.Detail) first (columns_of field)) wheel puts.listed listed
        (text-is puts.line puts.first puts.name puts.field puts.says_text puts.is_text) (text-is line first name field says_it text) refl refl
        (omega (arith, puts.wheel_is), omega (arith, puts.wheel_is, puts.within)) (omega (arith, wheel_is), omega (arith, wheel_is, within)) in
        let statements : says.DetailField puts.first puts.name shown.Plain ≡ says.DetailField first name shown.Plain =
        sym puts.says_text ∙ ap (λ (l : Line). l.statement) same ∙ says_it in
        let firsts : puts.first ≡ first = cc in
        let names : puts.name ≡ name = cc in
        let named : Some puts.field ≡ Some field =
        sym puts.is_text.named ∙ ap (λ (n : List ℕ). field_named chart.lines n) names ∙ text.named in
        let fields : puts.field ≡ field = same_Some puts.field field named in
        let from : puts.field.first ≡ field.first = ap (λ (f : Field). f.first) fields in
        omega (arith, firsts, from, puts.wheel_is, wheel_is, puts.column_is, column_is)
    one-column other line listed (of_amount first name how field position says_it amount from to wheel_is) =
        let figure : Figure = record { digits = columns_of field; decimals = decimals_of field.kind; mark = mark_shown how } in
        let wheels = on_wheels first position figure from to in
        let has : HasFigure chart.lines first figure = record {
          line = line;
          listed = listed;
          emitter = detail_emitter;
          is_figure =
              subst (λ (s : Statement). IsFigure chart.lines s detail_emitter first figure) (sym says_it) (on_detail first name how field amount);
        } in
        absurd (no-figure first figure (FigureItem-has chart.lines first figure has) (subst (λ (v : ℕ). first ≤ v) wheel_is wheels.0)
        (subst (λ (v : ℕ). v < first + figure_width figure) wheel_is wheels.1))

    own-wire : HasWire setup (hub.SR column) (hub.W wheel)
    own-wire =
        let there : HasWire setup (hub.SR (puts.field.first + puts.place)) (hub.W (puts.first + puts.place)) =
        asks wired.wired puts.line puts.listed puts.says_text
        (detail_text puts.first puts.name puts.field puts.place puts.is_text puts.within) in
        subst (λ (w : ℕ). HasWire setup (hub.SR column) (hub.W w)) puts.wheel_is
        (subst (λ (c : ℕ). HasWire setup (hub.SR c) (hub.W (puts.first + puts.place))) puts.column_is there)

    has-list : HasJack setup jack.List
    has-list =
        let kept = kept-line chart lawful puts.line puts.listed rule.PrintKind in
        let no_group : prints_group chart.lines ≡ false = ap (breaks_print_kind chart.lines) (sym puts.says_text) ∙ kept.1 in
        let some : has_print chart.lines ≡ true = not-false (has_print chart.lines) (lacks-lawful rule.PrintKind chart lawful) in
        (wired.wired.jacks jack.List).1 (list (prints-details chart.lines some no_group))

    pub lowest : IsColumnOn setup wheel column
    lowest =
        let range = column_range column own-wire.number own-wire.numbered in
        record {
          from = range.0;
          to = range.1;
          here = own-wire;
          below = λ other from less there.
              let wire : ChartWire chart.lines plan (hub.SR other) (hub.W wheel) =
              (wired.wired.wires (hub.SR other) (hub.W wheel)).0 there in
              omega (arith, less, one-column other wire.line wire.listed (column_of chart.lines plan other wheel wire.wire refl refl));
        }

    pub read_text : (draft : Draft) → (HasJack setup jack.List → ShowsColumns setup draft) → ShowsColumn draft wheel column
    read_text draft shows =
        let range = wheel_range wheel own-wire.to own-wire.entry_numbered in
        shows has-list wheel column range.0 range.1 no-amount-on lowest

pub texts_read : ReadsCardTexts
texts_read chart plan setup draft lawful wired shows wheel column puts = read_text chart plan setup lawful wired wheel column puts draft shows
