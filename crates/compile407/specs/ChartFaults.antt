-- What a fault says of the text of a chart.
use Rattle.std.specs.Prelude.{◌≢◌, ℕ, List}
use Rattle.allocate.specs.Exceeded.{HasCapacityFault}
use Rattle.chart_plans.specs.WantedWords.Wanted.{wanted_of}
use Rattle.allocate.specs.declared.fault.CapacityFault.{CapacityFault}
use Rattle.allocate.specs.declared.fault.CapacityFault.TheVariants as capacity
use Rattle.capacity.specs.Capacities.{standard}
use Rattle.chart_text.specs.Below.chart_lines.ChartsWords.Chart.{Chart}
use Rattle.chart_text.specs.ChartText.{Reads}
use Rattle.chart_text.specs.TextFaults.{HasTextFault}
use Rattle.chart_text.specs.declared.fault.TextFault.TheVariants as text
use Rattle.chart_rules.specs.Rules.{IsLawful, IsFirstBroken}
use Rattle.chart_rules.specs.declared.rule.Rule.{Rule}
use Rattle.fault_lines.specs.declared.faults.chart.ChartFault.{ChartFault}
use Rattle.fault_lines.specs.declared.faults.chart.ChartFault.TheVariants as chart

-- the text reads as a chart whose lowest broken rule and line these are
pub record BreaksRule (bytes : List ℕ) (broken : Rule) (line : ℕ) : Type 0 where
  pub read : Chart
  pub reads : Reads bytes read
  pub first : IsFirstBroken read broken line

-- the text reads as a chart that breaks no rule and exceeds a capacity of the standard machine as the fault says
pub record IsTooGreat (bytes : List ℕ) (fault : CapacityFault) : Type 0 where
  pub read : Chart
  pub reads : Reads bytes read
  pub lawful : IsLawful read
  pub is_cause : fault ≢ capacity.Memory
  pub exceeds : HasCapacityFault (wanted_of read.lines) standard fault

-- What a fault says of the text of a chart; no text makes memory run out.
abbrev pub HasChartFault : List ℕ → ChartFault → Type 0
HasChartFault bytes chart.TooLarge = HasTextFault bytes text.TooLarge
HasChartFault bytes chart.NoFirstLine = HasTextFault bytes text.NoFirstLine
HasChartFault bytes (chart.NotALine line) = HasTextFault bytes (text.NotALine line)
HasChartFault bytes chart.NoEnd = HasTextFault bytes text.NoEnd
HasChartFault bytes (chart.Rule broken line) = BreaksRule bytes broken line
HasChartFault bytes (chart.Capacity fault) = IsTooGreat bytes fault
HasChartFault bytes chart.Memory = ⊥
