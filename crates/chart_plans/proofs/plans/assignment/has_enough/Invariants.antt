use Rattle.std.proofs.Common.{◌≡◌, drop}
use Rattle.std.specs.List.{filter_map}
use Rattle.chart_plans.specs.WantedWords.ChartTotals.{line_total}
use Rattle.chart_plans.specs.PlansWords.HelperEnough.{are_enough}
use Rattle.chart_plans.proofs.plans.assignment.has_enough.Given as goal

abbrev pub invariant-loop-line : goal.invariant-loop-line
invariant-loop-line l =
    are_enough (filter_map (λ line. line_total l.chart.lines line.number line.statement) l.lines) l.counters
    ≡ are_enough (filter_map (λ line. line_total l.chart.lines line.number line.statement) (drop l.line-index l.lines)) l.rest
