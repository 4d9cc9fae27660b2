use Rattle.machine.specs.Steady.{nines_of}
use Rattle.machine.proofs.Rest.{AreApartBut}
use Rattle.machine.proofs.groups.meets_nines.Given as goal

-- no group whose bit was taken stands at nines
abbrev pub invariant-loop-place : goal.invariant-loop-place
invariant-loop-place l = AreApartBut l.left l.bits (nines_of l.groups)

abbrev pub decreases-loop-place : goal.decreases-loop-place
decreases-loop-place l = l.left
