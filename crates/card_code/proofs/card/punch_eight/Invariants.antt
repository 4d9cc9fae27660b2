use Rattle.std.proofs.Common.{◌≡◌, ◌+◌, ◌<◌, ◌≤◌, ℕ, length, slice_index}
use Rattle.card_code.specs.Columns.{column_of}
use Rattle.card_code.proofs.card.punch_eight.Given as goal

-- the sets so far are punched
abbrev pub invariant-loop-k : goal.invariant-loop-k
invariant-loop-k l = record {
  punched : (j : ℕ) → j < l.k → slice_index l.columns (l.first + j) ≡ column_of (slice_index l.rows j);
  before : (j : ℕ) → j < l.first → slice_index l.columns j ≡ slice_index l.fn.columns j;
  behind : (j : ℕ) → l.first + 8 ≤ j → slice_index l.columns j ≡ slice_index l.fn.columns j;
  whole : length l.columns ≡ 80;
}
