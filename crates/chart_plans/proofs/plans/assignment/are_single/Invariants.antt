use Rattle.chart_plans.proofs.PlansWords.Single.{AreSingleBelow}
use Rattle.chart_plans.proofs.plans.assignment.are_single.Given as goal

abbrev pub invariant-loop-place : goal.invariant-loop-place
invariant-loop-place l = AreSingleBelow l.counters l.place
