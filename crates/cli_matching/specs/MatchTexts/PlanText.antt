-- How a plan is told: a line for each total, with the counter groups that serve it.
use Rattle.std.specs.Prelude.{ℕ, List, [], ◌++◌, Option, Some, None, codes, decimal}
use Rattle.std.specs.List.{flat_map}
use Rattle.capacity.specs.declared.group.CounterGroup.{CounterGroup}
use Rattle.chart_lines.specs.declared.charts.chart.Line.{Line}
use Rattle.chart_plans.specs.PlansWords.Plans.{Lists, counter_on}
use Rattle.chart_plans.specs.declared.plans.counter.TotalCounter.{TotalCounter}
use Rattle.chart_plans.specs.declared.plans.counter.TotalCounter.TheVariants as counter
use Rattle.chart_plans.specs.WantedWords.ChartTotals.{totals_of}

-- a counter group: a blank, its width, a point and its number
abbrev pub group_words : CounterGroup → List ℕ
group_words group = codes " " ++ decimal group.width ++ codes "." ++ decimal group.number

-- the groups of a counter, that of the units first
abbrev pub counter_words : TotalCounter → List ℕ
counter_words (counter.Single group) = group_words group
counter_words (counter.Coupled lower upper) = group_words lower ++ group_words upper

-- the line of the total on a numbered line of the chart, if one stands there
abbrev pub counter_line : ℕ → Option TotalCounter → List ℕ
counter_line number None = []
counter_line number (Some its) = codes "line " ++ decimal number ++ codes ": counter" ++ counter_words its ++ codes "\n"

-- what the plan says of a line of the chart
abbrev pub plan_line : List Line → Lists → Line → List ℕ
plan_line lines plan line = counter_line line.number (counter_on (totals_of lines) plan.counters line.number)

-- the lines of all totals, in the order of the chart
abbrev pub plan_text : List Line → Lists → List ℕ
plan_text lines plan = flat_map (plan_line lines plan) lines
