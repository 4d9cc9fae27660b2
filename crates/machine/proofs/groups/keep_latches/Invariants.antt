use Rattle.machine.specs.Rest.{AreKeptBut}
use Rattle.machine.proofs.groups.keep_latches.Given as goal

-- the latches are kept of the groups but for those whose bits are left
abbrev pub invariant-loop-place : goal.invariant-loop-place
invariant-loop-place l = AreKeptBut l.left l.latches l.groups

abbrev pub decreases-loop-place : goal.decreases-loop-place
decreases-loop-place l = l.left
