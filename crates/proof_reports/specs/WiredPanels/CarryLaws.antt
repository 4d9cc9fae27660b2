-- A law of the carries of a chart: its carry wires agree with one another.
use Rattle.std.specs.Prelude.{List}
use Rattle.wiring_table.specs.Below.chart_lines.declared.charts.chart.Line.{Line}
use Rattle.proof_cycles.specs.Below.hubs.declared.hub.Hub.{Hub}
use Rattle.wiring_table.specs.Below.chart_plans.PlansWords.Plans.{Lists, ServesChart}
use Rattle.wiring_table.specs.Below.hubs.SetupsWords.Wiring.{CanJoin, HasWire, Wiring}
use Rattle.wiring_table.specs.Wires.{ChartWire}

-- Each wire of a chart can join a setup whose wires are all wires of the chart.
abbrev pub ChartWiresCanJoin : Type 0
ChartWiresCanJoin =
    (lines : List Line) (plan : Lists) (wiring : Wiring) → ServesChart lines plan
    → ((exit entry : Hub) → HasWire wiring exit entry → ChartWire lines plan exit entry)
    → (exit entry : Hub) → ChartWire lines plan exit entry → CanJoin wiring exit entry
