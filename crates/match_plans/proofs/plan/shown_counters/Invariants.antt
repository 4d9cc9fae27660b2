use Rattle.std.proofs.Common.{◌≡◌, ◌++◌, drop, filter_map}
use Rattle.match_plans.specs.NamingWires.{ShowsPartsOf}
use Rattle.match_plans.specs.Wired.{served_on}
use Rattle.chart_plans.specs.PlansWords.Plans.{Lists}
use Rattle.hubs.specs.SetupsWords.Wiring.{Wiring}
use Rattle.match_plans.proofs.plan.shown_counters.Given as goal

abbrev pub invariant-loop-line : goal.invariant-loop-line
invariant-loop-line l =
    (other : Wiring) (its : Lists) → ShowsPartsOf l.chart.lines l.setup other its
    → l.counters.items ++ filter_map (served_on l.chart.lines its) (drop l.line-index l.lines) ≡ its.counters
