use Rattle.std.proofs.Common.{◌≡◌, ℕ, ◌<◌, ◌≤◌, All, length, slice_index_or}
use Rattle.net.specs.HubSets.{is_bit}
use Rattle.counters.specs.Counters.{taken}
use Rattle.counters.specs.Laws.{IsDigit}
use Rattle.counters.proofs.sensing.take_row.Given as goal

-- the first positions have taken the row, and the others are as they were
abbrev pub invariant-loop-k : goal.invariant-loop-k
invariant-loop-k l = record {
  done :
      (k : ℕ) → k < l.k
      → slice_index_or l.entered k 0 ≡ taken l.row (is_bit l.impulsed k) (slice_index_or l.fn.entered k 0);
  left : (k : ℕ) → l.k ≤ k → slice_index_or l.entered k 0 ≡ slice_index_or l.fn.entered k 0;
  long : length l.entered ≡ length l.fn.entered;
  digits : All IsDigit l.entered;
}
