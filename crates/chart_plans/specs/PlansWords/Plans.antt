-- Plans: which counter, pilot, comparing position, storage unit, split and indicate position serves what of a chart.
use Rattle.std.specs.Prelude.{◌≡◌, ℕ, ◌≤◌, ◌==◌, List, Option, length, position, option_and_then, slice_get}
use Rattle.chart_lines.specs.declared.charts.chart.Line.{Line}
use Rattle.chart_lines.specs.declared.charts.level.ControlLevel.TheVariants as control
use Rattle.capacity.specs.Capacities.{standard}
use Rattle.chart_plans.specs.declared.wanted.total.Total.{Total}
use Rattle.chart_plans.specs.declared.wanted.count.Capacity.TheVariants as of
use Rattle.chart_plans.specs.PlansWords.Excess.{IsOver}
use Rattle.chart_plans.specs.PlansWords.Assignments.{IsAssignment}
use Rattle.chart_plans.specs.PlansWords.PartNumbers.{AreInOrder, AreNumbersOf, PartNumbers}
use Rattle.chart_plans.specs.declared.plans.counter.TotalCounter.{TotalCounter}
use Rattle.chart_plans.specs.WantedWords.Wanted.{Parts, Wanted, wanted_of}

-- a counter for each TOTAL amount, in the order of their lines; what the other parts serve, each list in the order in which the chart
-- asks for it; and the numbers of the parts that serve it
pub record Lists : Type 0 where
  pub counters : List TotalCounter
  pub parts : Parts
  pub numbers : PartNumbers

-- A plan serves what is wanted: each total has a counter of its own of the standard machine that is enough for it, and there are as
-- many counters as totals; the other parts serve what is wanted of them, each thing by a part of its own of the standard machine,
-- whichever that is; and but for the counter groups no capacity of the standard machine is exceeded.
pub record Serves (wanted : Wanted) (plan : Lists) : Type 0 where
  pub counters : IsAssignment wanted.totals standard plan.counters
  pub parts : plan.parts ≡ wanted.parts
  pub numbers : AreNumbersOf plan.parts plan.numbers
  pub pilots : ¬ IsOver of.Pilots wanted standard
  pub comparing : ¬ IsOver of.Comparing wanted standard
  pub storage_width : ¬ IsOver of.StorageWidth wanted standard
  pub storage_units : ¬ IsOver of.StorageUnits wanted standard
  pub splits : ¬ IsOver of.Splits wanted standard
  pub minor : ¬ IsOver (of.Indicate control.Minor) wanted standard
  pub intermediate : ¬ IsOver (of.Indicate control.Intermediate) wanted standard
  pub major : ¬ IsOver (of.Indicate control.Major) wanted standard

-- a plan serves a chart, whichever parts it has for it
abbrev pub ServesChart : List Line → Lists → Type 0
ServesChart lines plan = Serves (wanted_of lines) plan

-- A plan is one for a chart: it serves the chart, and it has a choice of counter groups alone. Of each other kind the parts 1, 2 and so
-- on serve, each list in the order in which the chart asks for it.
pub record IsFor (lines : List Line) (plan : Lists) : Type 0 where
  pub serves : ServesChart lines plan
  pub numbers : AreInOrder plan.parts plan.numbers

-- no more is served than the standard machine has parts
pub record IsWithinMachine (parts : Parts) : Type 0 where
  pub pilots : length parts.pilots ≤ 16
  pub comparing : length parts.comparing ≤ 30
  pub storage : length parts.storage ≤ 4
  pub splits : length parts.splits ≤ 16
  pub minor : length parts.minor ≤ 30
  pub intermediate : length parts.intermediate ≤ 30
  pub major : length parts.major ≤ 30

-- the counter of the total on a line: the one that stands where that total stands among the totals
abbrev pub counter_on : List Total → List TotalCounter → ℕ → Option TotalCounter
counter_on totals counters line = option_and_then (slice_get counters) (position (λ total. total.line == line) totals)
