use Rattle.chart_plans.proofs.PlansWords.Numbers.{AreApartBelow}
use Rattle.chart_plans.proofs.plans.part_numbers.are_apart.Given as goal

abbrev pub invariant-loop-place : goal.invariant-loop-place
invariant-loop-place l = AreApartBelow l.numbers l.place
