-- The jacks and the stops of a chart, line by line: what its lines ask for, all together, is what the chart asks for.
use Rattle.std.specs.Prelude.{◌↔◌, ℕ, Contains}
use Rattle.chart_lines.specs.ChartsWords.Chart.{Chart}
use Rattle.chart_rules.specs.Rules.{IsLawful}
use Rattle.hubs.specs.declared.jack.Jack.{Jack}
use Rattle.wiring_table.specs.Below.report_definition.ChartForm.{stops_of}
use Rattle.wiring_table.specs.Jacks.{ChartJack}
use Rattle.wiring_lines.specs.JacksAndTape.OfLine.{HasLineJack, HasLineStop}

-- each jack of a chart is one of some line, and the other way round
abbrev pub JacksAreOfLines : Type 0
JacksAreOfLines = (chart : Chart) (each : Jack) → ChartJack chart.lines each ↔ HasLineJack chart.lines each

-- so is each stop, where the chart is lawful
abbrev pub StopsAreOfLines : Type 0
StopsAreOfLines =
    (chart : Chart) (channel stop : ℕ) → IsLawful chart
    → Contains (stops_of chart.lines channel) stop ↔ HasLineStop chart.lines channel stop
