-- The sets of a card's columns, put one after the other.
use Rattle.std.proofs.Common.{◌≡◌, ◌≢◌, ◌∙◌, ◌⊎◌, ℕ, ◌+◌, ◌-◌, ◌<◌, ◌≤◌, arith, refl, sym, ap, inl, inr, Bool, true, false, ◌==◌, nat_lt, List, length, map, slice_index, slice_index_or, slice_set}
use Rattle.std.proofs.lemmas.Bool.Decides.{eqb_tells, nat_tests}
use Rattle.std.proofs.lemmas.Grind.{same_number_lists}
use Rattle.std.proofs.lemmas.List.{get_or-map, get_or_past, get_or-set_same, get_or-set_other, length-map, length-set}
use Rattle.card_code.proofs.Columns.{column-row}
use Rattle.card_code.specs.CardCode.{has_row}
use Rattle.card_code.specs.Columns.{column_of}
use Rattle.card_code.specs.Rows.{passing_place, row_number}
use Rattle.card_code.specs.declared.row.Row.{Row}
use Rattle.hubs.specs.HubTable.Ranges.{is_within}
use Rattle.net.proofs.Below.machine_sets.BitSets.BitLemmas.{is_bit-zero}
use Rattle.net.specs.HubSets.{is_bit}
use Rattle.net.specs.HubRows.{has_at}
use Rattle.stations.specs.Kept.{card_of}
use Rattle.stations.specs.Punches.{is_punched, AreColumnsAt}

-- The sets of the first columns of a card are there.
pub record HasColumns (count : ℕ) (card columns : List ℕ) : Type 0 where
  pub long : length columns ≡ 80
  pub done : (k : ℕ) → k < count → column_of (slice_index_or columns k 0) ≡ slice_index card k

-- no column of a card is there
pub columns-first : (card columns : List ℕ) → length columns ≡ 80 → HasColumns 0 card columns
columns-first card columns whole = record { long = whole; done = λ k less. absurd (omega (arith, less)) }

-- a column more is there
pub columns-next : (count set : ℕ) (card columns : List ℕ) → count < 80 → column_of set ≡ slice_index card count
    → HasColumns count card columns → HasColumns (count + 1) card (slice_set columns count set)
columns-next count set card columns below is before = record {
  long = length-set columns count set ∙ before.long;
  done = λ k less. by k less (eqb_tells k count);
}
  where
    by : (k : ℕ) → k < count + 1 → ((k == count) ≡ true) × (k ≡ count) ⊎ ((k == count) ≡ false) × (k ≢ count)
        → column_of (slice_index_or (slice_set columns count set) k 0) ≡ slice_index card k
    by k less (inl same) =
        let long = before.long in
        ap column_of
        (ap (λ (j : ℕ). slice_index_or (slice_set columns count set) j 0) same.1 ∙ get_or-set_same columns count set 0 (omega (arith, long, below)))
        ∙ is ∙ ap (λ (j : ℕ). slice_index card j) (sym same.1)
    by k less (inr other) =
        let apart = other.1 in
        ap column_of (get_or-set_other columns count k set 0 apart) ∙ before.done k (omega (arith, less, apart))

-- all columns of a card are there
pub columns-done : (count : ℕ) (card columns : List ℕ) → 80 ≤ count → length card ≡ 80 → HasColumns count card columns
    → map column_of columns ≡ card
columns-done count card columns end whole are =
    same_number_lists (map column_of columns) card (length-map columns column_of ∙ are.long ∙ sym whole)
    (λ k below. get_or-map column_of columns k 0 0 (let n = length-map columns column_of in omega (arith, below, n))
    ∙ are.done k (let n = length-map columns column_of in let long = are.long in omega (arith, below, n, long, end)))

-- the sets of a card's columns say what is punched
pub kept-columns : (columns : List ℕ) → length columns ≡ 80 → AreColumnsAt (card_of true columns) columns
unfolding is_bit
kept-columns columns long at k = by at k (nat_lt k 80) refl
  where
    by : (at : Row) (k : ℕ) (inside : Bool) → nat_lt k 80 ≡ inside
        → has_at columns k (passing_place at) ≡ is_punched (map column_of columns) at (k + 1)
    by at k true is =
        let within : is_within (k + 1) 80 ≡ true = grind (arith, nat_tests, is) in
        let index : k + 1 - 1 ≡ k = omega arith in
        sym (column-row (slice_index_or columns k 0) at)
        ∙ ap (λ (c : ℕ). has_row c (row_number at)) (sym (get_or-map column_of columns k 0 0 (grind (arith, nat_tests, is, long))))
        ∙ rw (within, index) refl
    by at k false is =
        let within : is_within (k + 1) 80 ≡ false = grind (arith, nat_tests, is) in
        ap (λ (w : ℕ). is_bit w (passing_place at)) (get_or_past columns k 0 (grind (arith, nat_tests, is, long)))
        ∙ is_bit-zero (passing_place at) ∙ rw within refl
