-- A chart with its plan and the setup of the panel that is wired for it.
use Rattle.allocate.specs.Exceeded.{FitsMachine}
use Rattle.chart_plans.specs.PlansWords.Plans.{Lists, ServesChart}
use Rattle.allocate.specs.Allocated.{IsPlanOf}
use Rattle.chart_plans.specs.WantedWords.Wanted.{wanted_of}
use Rattle.capacity.specs.Capacities.{standard}
use Rattle.chart_text.specs.Below.chart_lines.ChartsWords.Chart.{Chart}
use Rattle.hubs.specs.SetupsWords.Wiring.{Wiring}
use Rattle.proof_reports.specs.Below.wiring_table.WiredFor.{WiredFor}
use Rattle.compile407.specs.Headline.{IsSound}

-- a chart, its plan and a setup
pub record Compilation : Type 0 where
  pub chart : Chart
  pub plan : Lists
  pub setup : Wiring

-- The chart breaks no rule and exceeds no capacity of the standard machine, the plan is the chart's by the rule of allocation and serves it,
-- and the setup is wired for both.
pub record IsCompiled (compiled : Compilation) : Type 0 where
  pub sound : IsSound compiled.chart
  pub fits : FitsMachine (wanted_of compiled.chart.lines) standard
  pub planned : IsPlanOf (wanted_of compiled.chart.lines) standard compiled.plan
  pub serves : ServesChart compiled.chart.lines compiled.plan
  pub wired : WiredFor compiled.chart.lines compiled.plan compiled.setup
