use Rattle.std.proofs.Common.{◌≡◌, ℕ, ◌&&◌, ◌||◌, false, get_or}
use Rattle.net.specs.HubSets.{is_bit}
use Rattle.machine.specs.Steady.{carries_of}
use Rattle.machine.proofs.groups.carrying.Given as goal

-- the bits so far, with those of the groups left, are all
abbrev pub invariant-loop-place : goal.invariant-loop-place
invariant-loop-place l =
    (k : ℕ) → (is_bit l.bits k || (is_bit l.left k && get_or (carries_of l.groups) k false))
    ≡ get_or (carries_of l.groups) k false

abbrev pub decreases-loop-place : goal.decreases-loop-place
decreases-loop-place l = l.left
