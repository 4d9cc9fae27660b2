-- Wired for a chart and its plan: a setup of the panel has the wires, the jacks and the tape that they ask for, and no others.
use Rattle.std.specs.Prelude.{◌≡◌, ◌↔◌, ℕ, List, Contains, true}
use Rattle.chart_plans.specs.PlansWords.Plans.{Lists}
use Rattle.chart_plans.specs.Below.chart_lines.declared.charts.chart.Line.{Line}
use Rattle.hubs.specs.SetupsWords.Tapes.{CarriageTape, has_stop}
use Rattle.hubs.specs.SetupsWords.Wiring.{Wiring, HasWire, HasJack}
use Rattle.hubs.specs.declared.hub.Hub.{Hub}
use Rattle.hubs.specs.declared.jack.Jack.{Jack}
use Rattle.report_definition.specs.ChartForm.{form_of, stops_of}
use Rattle.wiring_table.specs.Jacks.{ChartJack}
use Rattle.wiring_table.specs.Wires.{ChartWire}

-- the tape of a chart: its form, and the stops of its TAPE lines, whether something skips to them or not
pub record IsTapeOf (lines : List Line) (tape : CarriageTape) : Type 0 where
  pub form_lines : tape.lines ≡ (form_of lines).lines
  pub first : tape.first ≡ (form_of lines).first
  pub overflow : tape.overflow ≡ (form_of lines).overflow
  pub stops : (channel line : ℕ) → (has_stop tape channel line ≡ true) ↔ Contains (stops_of lines channel) line

-- exactly the wires, the jacks and the tape of the chart
pub record WiredFor (lines : List Line) (plan : Lists) (setup : Wiring) : Type 0 where
  pub wires : (exit entry : Hub) → HasWire setup exit entry ↔ ChartWire lines plan exit entry
  pub jacks : (jack : Jack) → HasJack setup jack ↔ ChartJack lines jack
  pub tape : IsTapeOf lines setup.tape
