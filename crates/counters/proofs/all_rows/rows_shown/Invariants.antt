use Rattle.std.proofs.Common.{◌≡◌, ℕ, ◌&&◌, ◌==◌, nat_lt, length, get_or}
use Rattle.card_code.specs.Rows.{passing_place, row_number}
use Rattle.card_code.specs.declared.row.Row.{Row as CardRow}
use Rattle.net.specs.HubRows.{has_at}
use Rattle.counters.proofs.all_rows.rows_shown.Given as goal

-- the first positions from the units on have the rows of their digits
abbrev pub invariant-loop-k : goal.invariant-loop-k
invariant-loop-k l = record {
  shown :
      (row : CardRow) (k : ℕ)
      → has_at l.sets k (passing_place row) ≡ (nat_lt k l.k && (get_or l.digits k 0 == row_number row));
  long : length l.sets ≡ 8;
}
