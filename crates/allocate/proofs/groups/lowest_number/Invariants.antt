use Rattle.std.proofs.Common.{ℕ, ◌<◌, ◌≤◌}
use Rattle.allocate.specs.HelperTaking.{IsUsed}
use Rattle.allocate.proofs.groups.lowest_number.Given as goal

abbrev pub invariant-loop-number : goal.invariant-loop-number
invariant-loop-number l =
    (number : ℕ) → 1 ≤ number → number < l.number → IsUsed l.taken l.aside (record { width = l.width; number = number })
