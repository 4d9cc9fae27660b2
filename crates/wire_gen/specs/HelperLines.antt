-- A helper of the code: the wires of a line of the chart as the code adds them.
use Rattle.std.specs.Prelude.{ℕ, List, slice_get}
use Rattle.chart_plans.specs.PlansWords.Plans.{Lists}
use Rattle.chart_rules.specs.Below.chart_line_rules.FieldRules.Fields.{field_named}
use Rattle.chart_lines.specs.ChartsWords.Headings.{heading_number}
use Rattle.chart_lines.specs.ChartsWords.Levels.{level_number}
use Rattle.chart_lines.specs.declared.charts.chart.Line.{Line}
use Rattle.chart_lines.specs.declared.charts.statement.Statement.{Statement}
use Rattle.chart_lines.specs.declared.charts.statement.Statement.TheVariants as says
use Rattle.wiring_lines.specs.Below.wiring_table.Figures.{detail_emitter, heading_emitter, total_emitter}
use Rattle.wiring_lines.specs.LineWires.HelperAdds.{OfSome, Upto}
use Rattle.wiring_lines.specs.LineWires.HelperItems.{DetailWires, NoWires}
use Rattle.wiring_totals.specs.HelperTotals.{TotalWires}
use Rattle.wiring_lines.specs.LineWires.HelperRows.{AfterWires, ComparedWires, LiteralWires, PickupWires, SpaceWires, Wires}
use Rattle.wiring_totals.specs.HelperTotalRows.{TotalTextWires}
use Rattle.wiring_lines.specs.Below.wiring_table.Parts.{counter_for, unit_for}
use Rattle.wiring_lines.specs.Below.wiring_table.Wires.{LineWire}

-- the wires that a line of the chart gives, by its number and what it says
abbrev pub StatementWires : List Line → Lists → ℕ → Statement → Wires
StatementWires lines plan number (says.Field field) = PickupWires plan field
StatementWires lines plan number (says.Control level name) =
    OfSome (field_named lines name) (λ field. ComparedWires plan level number field)
StatementWires lines plan number (says.Head line wheel literal) =
    LiteralWires (heading_emitter (heading_number line)) wheel literal
StatementWires lines plan number (says.DetailLiteral wheel literal) = LiteralWires detail_emitter wheel literal
StatementWires lines plan number (says.DetailField wheel name shown) =
    OfSome (field_named lines name) (λ field. DetailWires plan number wheel name field shown field.kind)
StatementWires lines plan number (says.TotalLiteral level wheel literal) =
    LiteralWires (total_emitter (level_number level)) wheel literal
StatementWires lines plan number (says.TotalText level wheel name) =
    OfSome (field_named lines name) (λ field. OfSome (unit_for plan number) (λ unit. TotalTextWires level unit wheel field))
StatementWires lines plan number (says.TotalAmount total) =
    OfSome (field_named lines total.name) (λ field. OfSome (counter_for lines plan number) (λ counter.
    TotalWires lines plan total field counter))
StatementWires lines plan number (says.Space line spacing) = SpaceWires line spacing
StatementWires lines plan number (says.After line action) = AfterWires line action
StatementWires lines plan number other = NoWires

-- the wires of the lines before a place of the chart
abbrev pub WiresBefore : List Line → Lists → (place : ℕ) → Wires
WiresBefore lines plan place = Upto place (λ j. OfSome (slice_get lines j) (λ line. LineWire lines plan line.number line.statement))
