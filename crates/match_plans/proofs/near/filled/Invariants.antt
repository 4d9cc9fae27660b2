use Rattle.chart_plans.specs.PlansWords.PartNumbers.{AreThere}
use Rattle.match_plans.proofs.near.filled.Given as goal

abbrev pub invariant-loop-its : goal.invariant-loop-its
invariant-loop-its l = AreThere l.last l.numbers.items
