-- The wires of the lines of a chart, one by one and all together, are those of the table.
use Rattle.std.proofs.Common.{ℕ, List, length, refl, sym}
use Rattle.std.proofs.lemmas.Option.{get_or_from_slice_get, slice_get_read}
use Rattle.chart_plans.specs.PlansWords.Plans.{Lists}
use Rattle.chart_lines.specs.ChartsWords.Headings.{heading_number}
use Rattle.chart_lines.specs.ChartsWords.Levels.{level_number}
use Rattle.chart_lines.specs.declared.charts.chart.Line.{Line}
use Rattle.chart_lines.specs.declared.charts.statement.Statement.{Statement}
use Rattle.chart_lines.specs.declared.charts.statement.Statement.TheVariants as says
use Rattle.hubs.specs.declared.hub.Hub.{Hub}
use Rattle.wiring_lines.specs.Below.wiring_table.Figures.{IsLiteral, on_heading, on_detail, on_total, detail_emitter, heading_emitter, total_emitter}
use Rattle.wiring_lines.specs.Below.wiring_table.Figures as figures
use Rattle.wiring_lines.specs.LineWires.HelperAdds.{below, some}
use Rattle.wire_gen.specs.HelperKnown.{IsGood}
use Rattle.wire_gen.specs.HelperLines.{StatementWires, WiresBefore}
use Rattle.wiring_lines.specs.Below.wiring_table.Wires.{LineWire}
use Rattle.wiring_lines.specs.Below.wiring_table.Wires as table
use Rattle.hubs.specs.SetupsWords.Wiring.{Wiring}
use Rattle.wiring_lines.specs.LineWires.HelperAdds.{Adds}
use Rattle.wiring_lines.specs.Below.wiring_table.Wires.{ChartWire}
use Rattle.wire_gen.proofs.AmountBack.{total-back}
use Rattle.wire_gen.proofs.JoinAmount.{total-there}
use Rattle.wire_gen.proofs.JoinDetail.{detail-there, detail-back}
use Rattle.wire_gen.proofs.JoinLines.{field-there, field-back, literal-there, heading-back, detail_literal-back, total_literal-back, control-there, control-back, space-there, space-back, after-there, after-back}
use Rattle.wire_gen.proofs.JoinTotal.{total_text-there, total_text-back}
use Rattle.wiring_lines.proofs.LineWires.Steps.{adds-as}

module _ (lines : List Line) (plan : Lists) (number : ℕ) where
  there : (statement : Statement) → IsGood lines plan number statement → (exit to : Hub)
      → StatementWires lines plan number statement exit to → LineWire lines plan number statement exit to
  there (says.Field field) good = field-there lines plan number field
  there (says.Control level name) good = control-there lines plan number level name
  there (says.Head line wheel text) good =
      literal-there lines plan number (says.Head line wheel text) (heading_emitter (heading_number line)) wheel text (on_heading line wheel text)
  there (says.DetailLiteral wheel text) good =
      literal-there lines plan number (says.DetailLiteral wheel text) detail_emitter wheel text (figures.IsLiteral.on_detail wheel text)
  there (says.DetailField wheel name shown) good = detail-there lines plan number wheel name shown
  there (says.TotalLiteral level wheel text) good =
      literal-there lines plan number (says.TotalLiteral level wheel text) (total_emitter (level_number level)) wheel text
      (figures.IsLiteral.on_total level wheel text)
  there (says.TotalText level wheel name) good = total_text-there lines plan number level wheel name good
  there (says.TotalAmount total) good = total-there lines plan number total good
  there (says.Space line spacing) good = space-there lines plan number line spacing
  there (says.After line follows) good = after-there lines plan number line follows
  there (says.Print printing) good = λ exit to wire. absurd wire
  there (says.Form long top full) good = λ exit to wire. absurd wire
  there (says.Tape channel stops) good = λ exit to wire. absurd wire

  none-print : (printing : _) (exit to : Hub) → LineWire lines plan number (says.Print printing) exit to → ⊥
  none-print printing exit to (table.literal _ emitter wheel text j row is punch) = elim is [ ]
  none-print printing exit to (table.point _ emitter wheel figure row is has punch) = elim is [ ]

  none-form : (long top full : ℕ) (exit to : Hub) → LineWire lines plan number (says.Form long top full) exit to → ⊥
  none-form long top full exit to (table.literal _ emitter wheel text j row is punch) = elim is [ ]
  none-form long top full exit to (table.point _ emitter wheel figure row is has punch) = elim is [ ]

  none-tape : (channel : ℕ) (stops : List ℕ) (exit to : Hub) → LineWire lines plan number (says.Tape channel stops) exit to → ⊥
  none-tape channel stops exit to (table.literal _ emitter wheel text j row is punch) = elim is [ ]
  none-tape channel stops exit to (table.point _ emitter wheel figure row is has punch) = elim is [ ]

  back : (statement : Statement) → IsGood lines plan number statement → (exit to : Hub)
      → LineWire lines plan number statement exit to → StatementWires lines plan number statement exit to
  back (says.Field field) good = field-back lines plan number field
  back (says.Control level name) good = control-back lines plan number level name
  back (says.Head line wheel text) good = heading-back lines plan number line wheel text
  back (says.DetailLiteral wheel text) good = detail_literal-back lines plan number wheel text
  back (says.DetailField wheel name shown) good = detail-back lines plan number wheel name shown
  back (says.TotalLiteral level wheel text) good = total_literal-back lines plan number level wheel text
  back (says.TotalText level wheel name) good = total_text-back lines plan number level wheel name good
  back (says.TotalAmount total) good = total-back lines plan number total good
  back (says.Space line spacing) good = space-back lines plan number line spacing
  back (says.After line follows) good = after-back lines plan number line follows
  back (says.Print printing) good = none-print printing
  back (says.Form long top full) good = none-form long top full
  back (says.Tape channel stops) good = none-tape channel stops

  -- the wires of a line
  pub line-wired : (statement : Statement) (old new : Wiring) → IsGood lines plan number statement
      → Adds (StatementWires lines plan number statement) old new → Adds (LineWire lines plan number statement) old new
  line-wired statement old new good added = adds-as (there statement good) (back statement good) added

-- the wires of all lines are those of the chart
pub chart-wires : (lines : List Line) (plan : Lists) (old new : Wiring) → Adds (WiresBefore lines plan (length lines)) old new
    → Adds (ChartWire lines plan) old new
chart-wires lines plan old new added = adds-as onward back-again added
  where
    onward : (exit to : Hub) → WiresBefore lines plan (length lines) exit to → ChartWire lines plan exit to
    onward exit to (below j less (some line is wire)) =
        record { line = line; listed = (j, less, get_or_from_slice_get lines j line line is); wire = wire }

    back-again : (exit to : Hub) → ChartWire lines plan exit to → WiresBefore lines plan (length lines) exit to
    back-again exit to wire =
        below wire.listed.0 wire.listed.1
        (some wire.line (slice_get_read lines (length lines) wire.listed.0 wire.line refl wire.listed.1 (sym wire.listed.2)) wire.wire)
