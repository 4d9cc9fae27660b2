use Rattle.std.proofs.Common.{◌≡◌, take, length}
use Rattle.machine.specs.Steady.{nines_of}
use Rattle.machine.proofs.groups.nines.Given as goal

-- the groups so far have told whether they stand at nines
abbrev pub invariant-loop-place : goal.invariant-loop-place
invariant-loop-place l = (take l.place l.nines ≡ nines_of (take l.place l.groups)) × (length l.nines ≡ 32)
