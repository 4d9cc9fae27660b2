use Rattle.std.proofs.Common.{subst, sym}
use Rattle.chart_plans.specs.PlansWords.PartNumbers.{AreThere}
use Rattle.match_plans.proofs.Steps.{there-more, there-none}
use Rattle.match_plans.proofs.near.filled.Goals as goal

pub loop-its-init : goal.loop-its-init
loop-its-init c = subst (AreThere c.args.last) (sym c.new-numbers.ensures.items) (there-none c.args.last)

pub loop-its-preserved : goal.loop-its-preserved
loop-its-preserved c =
    rw c.in_ok-push-in-Some.ensures.items
    (there-more c.args.last c.in-Some.number c.loop-its.numbers.items c.loop-its.invariant c.in-Some.ensures.0 c.in-Some.ensures.1)
