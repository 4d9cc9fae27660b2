-- The setup of one line of a chart: the wires, the jacks and the stops that this line asks for.
use Rattle.std.specs.Prelude.{◌↔◌, List}
use Rattle.chart_lines.specs.declared.charts.chart.Line.{Line}
use Rattle.hubs.specs.declared.hub.Hub.{Hub}
use Rattle.hubs.specs.declared.jack.Jack.{Jack}
use Rattle.wiring_lines.specs.JacksAndTape.OfLine.{IsTapeOfLine, LineJack}
use Rattle.chart_plans.specs.PlansWords.Plans.{Lists}
use Rattle.hubs.specs.SetupsWords.Wiring.{Wiring, HasJack, HasWire}
use Rattle.wiring_lines.specs.Below.wiring_table.Wires.{LineWire}

-- exactly the wires, the jacks and the stops of a line of the chart, on the chart's form
pub record IsSetupOfLine (lines : List Line) (plan : Lists) (line : Line) (setup : Wiring) : Type 0 where
  pub wires : (exit entry : Hub) → HasWire setup exit entry ↔ LineWire lines plan line.number line.statement exit entry
  pub jacks : (each : Jack) → HasJack setup each ↔ LineJack lines line.statement each
  pub tape : IsTapeOfLine lines line.statement setup.tape
