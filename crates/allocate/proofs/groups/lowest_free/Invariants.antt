use Rattle.std.proofs.Common.{ℕ, ◌<◌, ◌≤◌, get_or}
use Rattle.allocate.specs.HelperTaking.{IsUsed, IsWidthTaken}
use Rattle.allocate.proofs.groups.lowest_free.Given as goal

abbrev pub invariant-loop-width : goal.invariant-loop-width
invariant-loop-width l =
    (k : ℕ) → k < l.width-index → l.need ≤ get_or l.width-items k 0 → IsWidthTaken (get_or l.width-items k 0) l.profile (IsUsed l.taken l.aside)
