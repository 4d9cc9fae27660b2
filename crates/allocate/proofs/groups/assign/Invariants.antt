use Rattle.allocate.proofs.Taking.{IsPartly, waiting}
use Rattle.allocate.proofs.groups.assign.Given as goal

abbrev pub invariant-loop-place : goal.invariant-loop-place
invariant-loop-place l = IsPartly l.totals l.profile l.taken.items

abbrev pub decreases-loop-place : goal.decreases-loop-place
decreases-loop-place l = waiting l.taken.items
