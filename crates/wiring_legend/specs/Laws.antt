-- What the lines of a chart ask for, all together, is the setup of the chart: so a legend leaves nothing out, and names nothing else.
use Rattle.std.specs.Prelude.{◌≡◌, ◌↔◌, ℕ, List, Contains, true}
use Rattle.chart_rules.specs.Rules.{IsLawful}
use Rattle.chart_lines.specs.ChartsWords.Chart.{Chart}
use Rattle.chart_lines.specs.declared.charts.chart.Line.{Line}
use Rattle.hubs.specs.declared.hub.Hub.{Hub}
use Rattle.hubs.specs.declared.jack.Jack.{Jack}
use Rattle.wiring_lines.specs.JacksAndTape.OfLine.{HasLineJack, HasLineStop}
use Rattle.chart_plans.specs.PlansWords.Plans.{Lists}
use Rattle.hubs.specs.SetupsWords.Tapes.{has_stop}
use Rattle.hubs.specs.SetupsWords.Wiring.{Wiring, HasJack, HasWire}
use Rattle.wiring_table.specs.WiredFor.{WiredFor}
use Rattle.wiring_table.specs.Wires.{LineWire}

-- some line of the chart asks for the wire
pub record HasLineWire (lines : List Line) (plan : Lists) (exit entry : Hub) : Type 0 where
  pub line : Line
  pub listed : Contains lines line
  pub asks : LineWire lines plan line.number line.statement exit entry

-- a setup has exactly the wires, the jacks and the stops that some line of the chart asks for
pub record IsOfLines (lines : List Line) (plan : Lists) (setup : Wiring) : Type 0 where
  pub wires : (exit entry : Hub) → HasWire setup exit entry ↔ HasLineWire lines plan exit entry
  pub jacks : (each : Jack) → HasJack setup each ↔ HasLineJack lines each
  pub stops : (channel stop : ℕ) → (has_stop setup.tape channel stop ≡ true) ↔ HasLineStop lines channel stop

-- a setup that is wired for a lawful chart is such a one
abbrev pub LinesMakeTheSetup : Type 0
LinesMakeTheSetup =
    (chart : Chart) (plan : Lists) (setup : Wiring) → IsLawful chart → WiredFor chart.lines plan setup
    → IsOfLines chart.lines plan setup
