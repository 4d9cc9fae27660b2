-- The columns of a card as sets of rows by their places among the points.
use Rattle.std.proofs.Common.{◌≡◌, ◌≢◌, ◌∙◌, ◌⊎◌, ℕ, ◌+◌, ◌<◌, ◌≤◌, arith, refl, sym, ap, inl, inr, Bool, true, false, ◌==◌, nat_lt, List, length, map, replicate, slice_index, slice_index_or, slice_set, Option, Some, None}
use Rattle.std.proofs.lemmas.Bool.Decides.{eqb_tells, nat_tests}
use Rattle.std.proofs.lemmas.List.{get_or-replicate, get_or-set_same, get_or-set_other, get_or_past, length-set}
use Rattle.std.proofs.lemmas.List.FromFn.{get_or-map-range_with_len, length-map-range_with_len}
use Rattle.std.specs.List.{range_with_len}
use Rattle.card_code.specs.Rows.{passing_place}
use Rattle.card_code.specs.declared.row.Row.{Row}
use Rattle.card_code.specs.declared.row.Row.TheVariants.{Zero}
use Rattle.hubs.specs.HubTable.Ranges.{is_within}
use Rattle.hubs.specs.declared.hub.Hub.{Hub}
use Rattle.hubs.specs.declared.hub.Hub.TheVariants.{FR, SR}
use Rattle.net.proofs.Below.machine_sets.BitSets.MaskLemmas.{is_bit-mask}
use Rattle.net.proofs.SetLemmas.{sets-row}
use Rattle.net.specs.HubSets.{is_bit}
use Rattle.net.specs.HubRows.{has_at}
use Rattle.net.specs.RowSets.{is_in_sets}
use Rattle.stations.specs.Punches.{is_punched_at, AreColumnsAt, AreRowsAt, IsRowAt}
use Rattle.stations.specs.Stations.{first_emits, second_emits}
use lib.Lanes.{mask_l}
use Rattle.stations.proofs.RowHubs.{first_row, second_row}
use Rattle.stations.proofs.RowWords.{no_bit}

-- a row's place is one of twelve
pub place_below : (row : Row) → passing_place row < 12
place_below Zero = omega arith
place_below other = omega arith

-- no card has no rows
pub no_card : AreRowsAt None (replicate 12 0)
no_card = record { twelve = refl; punched = λ row bit. empty row bit (place_below row) }
  where
    empty : (row : Row) (bit : ℕ) → passing_place row < 12 → is_bit (slice_index (replicate 12 0) (passing_place row)) bit ≡ false
    empty row bit low = ap (λ (w : ℕ). is_bit w bit) (get_or-replicate {A = ℕ} 12 (passing_place row) 0 0 low) ∙ no_bit bit

-- no card has columns without a row
pub no_columns : AreColumnsAt None (replicate 80 0)
no_columns row k = ap (λ (w : ℕ). is_bit w (passing_place row)) (by (nat_lt k 80) refl) ∙ no_bit (passing_place row)
  where
    by : (inside : Bool) → nat_lt k 80 ≡ inside → ◌≡◌ {A = ℕ} (slice_index_or (replicate 80 0) k 0) 0
    by true is = get_or-replicate {A = ℕ} 80 k 0 0 (grind (arith, nat_tests, is))
    by false is = get_or_past (replicate 80 0) k 0 (grind (arith, nat_tests, is))

-- there is a word of each row
row_bits : Option (List ℕ) → Row → List Bool
row_bits card row = map (λ k. is_punched_at card row (k + 1)) (range_with_len 0 80)

row_word-is : (card : Option (List ℕ)) (row : Row) → IsRowAt card row (mask_l (row_bits card row))
unfolding row_bits
row_word-is card row bit = is_bit-mask (row_bits card row) bit ∙ by card (nat_lt bit 80) refl
  where
    past : (at : Option (List ℕ)) → nat_lt bit 80 ≡ false → slice_index_or (row_bits at row) bit false ≡ false
    past at is =
        let long = length-map-range_with_len (λ k. is_punched_at at row (k + 1)) 0 80 in
        get_or_past (row_bits at row) bit false (grind (arith, nat_tests, is, long))

    by : (at : Option (List ℕ)) (inside : Bool) → nat_lt bit 80 ≡ inside
        → slice_index_or (row_bits at row) bit false ≡ is_punched_at at row (bit + 1)
    by at true is =
        get_or-map-range_with_len (λ k. is_punched_at at row (k + 1)) 0 80 bit bit false (grind (arith, nat_tests, is)) (omega arith)
    by None false is = past None is
    by (Some punched) false is =
        let out : is_within (bit + 1) 80 ≡ false = grind (arith, nat_tests, is) in past (Some punched) is ∙ rw out refl

-- the word that has the row of each column is the row's
pub row-read : (card : Option (List ℕ)) (columns : List ℕ) (row : Row) (word : ℕ) → AreColumnsAt card columns
    → ((k : ℕ) → is_bit word k ≡ has_at columns k (passing_place row)) → IsRowAt card row word
row-read card columns row word are has bit = has bit ∙ are row bit

-- the sets of first reading
pub first_columns : (card : Option (List ℕ)) (columns : List ℕ) (row : Row) (hub : Hub)
    → AreColumnsAt card columns → is_in_sets (FR 1) columns (passing_place row) hub ≡ first_emits card row hub
first_columns card columns row hub sets =
    sets-row (FR 1) hub columns (passing_place row) (mask_l (row_bits card row))
    (λ k. sets row k ∙ sym (row_word-is card row k)) ∙ first_row card (mask_l (row_bits card row)) row hub (row_word-is card row)

-- the sets of second reading
pub second_columns : (card : Option (List ℕ)) (columns : List ℕ) (row : Row) (hub : Hub)
    → AreColumnsAt card columns → is_in_sets (SR 1) columns (passing_place row) hub ≡ second_emits card row hub
second_columns card columns row hub sets =
    sets-row (SR 1) hub columns (passing_place row) (mask_l (row_bits card row))
    (λ k. sets row k ∙ sym (row_word-is card row k)) ∙ second_row card (mask_l (row_bits card row)) row hub (row_word-is card row)

-- the words of the first rows are read off the columns
pub record AreRowsTo (count : ℕ) (columns words : List ℕ) : Type 0 where
  pub long : length words ≡ 12
  pub done : (place : ℕ) → place < count → (k : ℕ) → is_bit (slice_index_or words place 0) k ≡ has_at columns k place

pub rows-none : (columns : List ℕ) → AreRowsTo 0 columns (replicate 12 0)
rows-none columns = record { long = refl; done = λ place less. absurd (omega (arith, less)) }

pub rows-more : (count word : ℕ) (columns words : List ℕ) → count < 12
    → ((k : ℕ) → is_bit word k ≡ has_at columns k count)
    → AreRowsTo count columns words → AreRowsTo (count + 1) columns (slice_set words count word)
rows-more count word columns words below has before = record {
  long = length-set words count word ∙ before.long;
  done = λ place less k. by place less k (eqb_tells place count);
}
  where
    by : (place : ℕ) → place < count + 1 → (k : ℕ)
        → ((place == count) ≡ true) × (place ≡ count) ⊎ ((place == count) ≡ false) × (place ≢ count)
        → is_bit (slice_index_or (slice_set words count word) place 0) k ≡ has_at columns k place
    by place less k (inl same) =
        let long = before.long in
        ap (λ (p : ℕ). is_bit (slice_index_or (slice_set words count word) p 0) k) same.1
        ∙ ap (λ (w : ℕ). is_bit w k) (get_or-set_same words count word 0 (omega (arith, long, below)))
        ∙ has k ∙ ap (λ (p : ℕ). has_at columns k p) (sym same.1)
    by place less k (inr other) =
        let apart = other.1 in
        ap (λ (w : ℕ). is_bit w k) (get_or-set_other words count place word 0 apart) ∙ before.done place (omega (arith, less, apart)) k

pub rows-all : (count : ℕ) (card : Option (List ℕ)) (columns words : List ℕ) → 12 ≤ count → AreColumnsAt card columns
    → AreRowsTo count columns words → AreRowsAt card words
rows-all count card columns words end sets are = record {
  twelve = are.long;
  punched = λ row bit.
      are.done (passing_place row) (let low = place_below row in omega (arith, low, end)) bit ∙ sets row bit;
}
