-- In a heading cycle the literals of its heading line arrive at its wheels.
use Rattle.std.proofs.Common.{◌≡◌, ◌∙◌, refl, sym, ap, subst, ℕ, ◌==◌, Bool, true, false, cond, List, Contains, Some, None, length, map, arith}
use Rattle.std.proofs.lemmas.Bool.Decides.{nat_tests}
use Rattle.std.proofs.lemmas.List.{length-map}
use Rattle.proof_reports.specs.Below.card_code.CardCode.{has_row}
use Rattle.proof_reports.specs.Below.card_code.Rows.{row_number}
use Rattle.proof_reports.specs.Below.chart_line_rules.FieldRules.Fields.{fields_of}
use Rattle.proof_reports.specs.Below.chart_line_rules.PrintRules.Items.{item_of, text_item}
use Rattle.proof_reports.specs.Below.chart_line_rules.PrintRules.Wheels.{HasWheel}
use Rattle.proof_reports.specs.Below.chart_line_rules.declared.print_rules.items.Item.{Item}
use Rattle.proof_reports.specs.Below.chart_line_rules.declared.print_rules.items.PrintedLine.TheVariants.{Heading}
use Rattle.proof_reports.specs.Below.chart_lines.ChartsWords.Chart.{Chart}
use Rattle.proof_reports.specs.Below.chart_lines.ChartsWords.Headings.{heading_number}
use Rattle.proof_reports.specs.Below.chart_lines.declared.charts.chart.Line.{Line}
use Rattle.proof_reports.specs.Below.chart_lines.declared.charts.heading.HeadingLine.{HeadingLine}
use Rattle.proof_reports.specs.Below.chart_lines.declared.charts.statement.Statement.TheVariants as says
use Rattle.proof_reports.specs.Below.chart_lines.declared.charts.statement.Statement.{Statement}
use Rattle.proof_reports.specs.Below.hubs.SetupsWords.Wiring.{Wiring}
use Rattle.proof_reports.specs.Below.hubs.declared.hub.Hub.TheVariants.{W}
use Rattle.proof_cycles.specs.Below.net.Cycles.{ordinal_number}
use Rattle.proof_cycles.specs.Below.net.declared.cycle.Cycle.TheVariants.{Head}
use Rattle.proof_cycles.specs.Below.net.declared.cycle.Ordinal.{Ordinal}
use Rattle.print_unit.specs.Emitters.{emitter_of}
use Rattle.proof_reports.specs.PrintedLines.Shown.Shown.{Characters}
use Rattle.proof_reports.specs.PrintedLines.Shown.{Shown, set_of_character, heading_sends}
use Rattle.wiring_table.specs.Figures.IsLiteral.{on_heading}
use Rattle.wiring_table.specs.Wires.LineWire.{literal}
use Rattle.proof_reports.specs.WiredPanels.CycleRows.{CycleRow}
use Rattle.proof_reports.specs.WiredPanels.CycleAsks.PrintedRows.{IsHeadingRow}
use Rattle.proof_reports.specs.WiredPanels.Sources.EmitsAtRow.{emitter}
use Rattle.proof_reports.proofs.WiredPanels.ToWheels.{ArrivesThere, along}
use Rattle.proof_reports.proofs.WiredPanels.CycleAsks.WheelRows.IsLineOf.{heading as its_line}
use Rattle.proof_reports.proofs.WiredPanels.CycleAsks.WheelRows.{IsLineOf, SendsRow, stands_on, sent_on}
use Rattle.proof_reports.proofs.WiredPanels.CycleAsks.WheelRowsText.{literal-of, standing}

pub on_line : (heading : Ordinal) (line : HeadingLine) (wheel : ℕ) (characters : List ℕ) → heading_number line ≡ ordinal_number heading
    → heading_sends (ordinal_number heading) (says.Head line wheel characters) ≡ Some (Characters wheel (map set_of_character characters))
on_line heading line wheel characters same =
    let e : (heading_number line == ordinal_number heading) ≡ true = grind (arith, nat_tests, same) in
    ap (λ b. cond b (Some (Characters wheel (map set_of_character characters))) None) e

-- a line that sends to a heading line
tested : (heading : Ordinal) (line : HeadingLine) (wheel : ℕ) (characters : List ℕ) {shown : Shown}
    → heading_sends (ordinal_number heading) (says.Head line wheel characters) ≡ Some shown
    → (heading_number line ≡ ordinal_number heading) × (shown ≡ Characters wheel (map set_of_character characters))
tested heading line wheel characters {shown} is = by (heading_number line == ordinal_number heading) refl is
  where
    by : (b : Bool) → (heading_number line == ordinal_number heading) ≡ b
        → cond b (Some (Characters wheel (map set_of_character characters))) None ≡ Some shown
        → (heading_number line ≡ ordinal_number heading) × (shown ≡ Characters wheel (map set_of_character characters))
    by true same there = (grind (arith, nat_tests, same), cc)
    by false same there = cc

pub sends-arrives : (wiring : Wiring) (heading : Ordinal) (at : CycleRow) (line : Line) (statement : Statement) (v : ℕ)
    → IsHeadingRow wiring heading at → Contains at.chart.lines line → line.statement ≡ statement
    → SendsRow (heading_sends (ordinal_number heading)) statement v (row_number at.row) → ArrivesThere at (W v)
sends-arrives wiring heading at its (says.Head line wheel characters) v row listed says_it sent =
    let (same, shown) = tested heading line wheel characters sent.is_sent in
    let on = literal-of wheel characters v at.row (sym (ap (λ s. stands_on s v) shown) ∙ sent.there)
    (sym (ap (λ s. has_row (sent_on s v) (row_number at.row)) shown) ∙ sent.on) in
    subst (λ w. ArrivesThere at (W w)) (sym on.is)
    (along wiring at row.on_panel row.rises its listed says_it
    (literal (says.Head line wheel characters) (heading_number line) wheel characters on.j (row_number at.row) (on_heading line wheel characters) on.punch)
    (emitter (heading_number line) (ap emitter_of row.cycle ∙ ap Some (sym same))))
sends-arrives wiring heading at its other v row listed says_it sent = let none = sent.is_sent in cc

pub item-of : (heading : Ordinal) (chart : Chart) (v : ℕ) (statement : Statement) (shown : Shown)
    → heading_sends (ordinal_number heading) statement ≡ Some shown → stands_on shown v ≡ true
    → (item : Item) × (item_of (fields_of chart.lines) statement ≡ Some item) × HasWheel item v × IsLineOf (Head heading) item.line
item-of heading chart v (says.Head line wheel characters) shown is there =
    let (same, sent) = tested heading line wheel characters is in
    let s = standing (Characters wheel (map set_of_character characters)) v (sym (ap (λ s. stands_on s v) sent) ∙ there) in
    let n = length-map characters set_of_character in
    (text_item (Heading line) wheel (length characters), refl, (omega (arith, s.is), omega (arith, s.is, s.within, n)), its_line heading line same)
item-of heading chart v other shown is there = cc
