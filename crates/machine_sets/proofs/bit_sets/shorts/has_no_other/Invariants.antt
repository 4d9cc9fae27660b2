use Rattle.std.proofs.Common.{◌≡◌, ◌≢◌, ◌<◌, ℕ, slice_index_or}
use Rattle.machine_sets.proofs.bit_sets.shorts.has_no_other.Given as goal

-- no word so far has a place but for the two
abbrev pub invariant-loop-number : goal.invariant-loop-number
invariant-loop-number l = (k : ℕ) → k < l.number → k ≢ l.first → k ≢ l.last → slice_index_or l.row k 0 ≡ 0
