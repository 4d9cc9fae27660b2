-- Laws of capacities.
use Rattle.std.specs.Prelude.{◌≡◌, ℕ, All, List}
use Rattle.capacity.specs.Capacities.{Capacities, widths}
use Rattle.chart_lines.specs.ChartsWords.Chart.{Chart}
use Rattle.chart_rules.specs.Rules.{IsLawful}
use Rattle.chart_plans.specs.WantedWords.ChartTotals.{totals_of}
use Rattle.allocate.specs.Exceeded.{HasCapacityFault, FitsMachine}
use Rattle.chart_plans.specs.PlansWords.Excess.{IsOver}
use Rattle.chart_plans.specs.PlansWords.Assignments.{IsAssignment}
use Rattle.chart_plans.specs.declared.plans.counter.TotalCounter.{TotalCounter}
use Rattle.chart_plans.specs.WantedWords.Wanted.{Wanted, wanted_of}
use Rattle.chart_plans.specs.declared.wanted.count.Capacity.TheVariants as of
use Rattle.allocate.specs.declared.fault.CapacityFault.{CapacityFault}

-- the counter groups of a machine are exceeded by a chart at a width
abbrev pub IsOverAt : ℕ → Chart → Capacities → Type 0
IsOverAt width chart machine = IsOver (of.Counters width) (wanted_of chart.lines) machine

-- where a chart that breaks no rule exceeds the counter groups at no width, each total can have a counter of its own
abbrev pub ChartsWithinHaveAnAssignment : Type 0
ChartsWithinHaveAnAssignment =
    (chart : Chart) (machine : Capacities) → IsLawful chart → All (λ width. ¬ IsOverAt width chart machine) widths
    → (counters : List TotalCounter) × IsAssignment (totals_of chart.lines) machine counters

-- where a chart exceeds the counter groups at a width, not each total can have a counter of its own
abbrev pub ChartsOverHaveNone : Type 0
ChartsOverHaveNone =
    (chart : Chart) (machine : Capacities) (width : ℕ) (counters : List TotalCounter) → IsOverAt width chart machine
    → ¬ IsAssignment (totals_of chart.lines) machine counters

-- what fits a machine has no fault on it
abbrev pub FittingChartsHaveNoFault : Type 0
FittingChartsHaveNoFault =
    (wanted : Wanted) (machine : Capacities) (told : CapacityFault) → FitsMachine wanted machine → ¬ HasCapacityFault wanted machine told

-- what is wanted has at most one fault on a machine
abbrev pub ChartsExceedOneCapacity : Type 0
ChartsExceedOneCapacity =
    (wanted : Wanted) (machine : Capacities) (one other : CapacityFault) → HasCapacityFault wanted machine one
    → HasCapacityFault wanted machine other → one ≡ other
