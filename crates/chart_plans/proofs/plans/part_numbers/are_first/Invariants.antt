use Rattle.chart_plans.proofs.PlansWords.Numbers.{AreFirstBelow}
use Rattle.chart_plans.proofs.plans.part_numbers.are_first.Given as goal

abbrev pub invariant-loop-place : goal.invariant-loop-place
invariant-loop-place l = AreFirstBelow l.numbers l.place
