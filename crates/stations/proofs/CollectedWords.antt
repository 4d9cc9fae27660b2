-- The words of positions that comparing collected, row by row.
use Rattle.std.proofs.Common.{◌≡◌, ◌≢◌, ◌∙◌, ◌⊎◌, ℕ, ◌+◌, ◌-◌, ◌%◌, ◌^◌, ◌<◌, ◌≤◌, ◌==◌, ◌&&◌, Bool, false, nat_lt, true, List, ap, arith, bit_and, inl, inr, length, refl, replicate, slice_index_or, slice_set, sym, take}
use Rattle.std.proofs.lemmas.Bool.Decides.{eqb_tells, nat_tests}
use Rattle.std.proofs.lemmas.List.{get_or-set_other, get_or-set_same, get_or-take, get_or_past, length-set, length-take-le}
use Rattle.card_code.specs.Rows.{passing_place}
use Rattle.card_code.specs.declared.row.Row.{Row}
use Rattle.net.proofs.Below.machine_sets.BitSets.BitLemmas.{is_bit-zero}
use Rattle.net.specs.HubRows.{has_at}
use Rattle.net.specs.HubSets.{is_bit}
use Rattle.stations.proofs.EntryLanes.{bits-cut}
use Rattle.stations.proofs.ColumnSets.{place_below}
use Rattle.stations.specs.CollectedSets.{AreSetsOf}

-- the words of the first rows are read off the sets
pub record AreSetsTo (count : ℕ) (one other : List ℕ) (words : List (ℕ × ℕ)) : Type 0 where
  pub long : length words ≡ 12
  pub first : (place : ℕ) → place < count → (k : ℕ) → is_bit (slice_index_or words place (0, 0)).0 k ≡ has_at one k place
  pub second : (place : ℕ) → place < count → (k : ℕ) → is_bit (slice_index_or words place (0, 0)).1 k ≡ has_at other k place

pub sets-none : (first second : List ℕ) → AreSetsTo 0 first second (replicate 12 (0, 0))
sets-none first second = record {
  long = refl;
  first = λ place less. absurd (omega (arith, less));
  second = λ place less. absurd (omega (arith, less));
}

pub sets-more : (count : ℕ) (pair : ℕ × ℕ) (first second : List ℕ) (words : List (ℕ × ℕ)) → count < 12
    → ((k : ℕ) → is_bit pair.0 k ≡ has_at first k count) → ((k : ℕ) → is_bit pair.1 k ≡ has_at second k count)
    → AreSetsTo count first second words → AreSetsTo (count + 1) first second (slice_set words count pair)
sets-more count pair first second words below one other before = record {
  long = length-set words count pair ∙ before.long;
  first = λ place less k. by (λ p. p.0) first one before.first place less k (eqb_tells place count);
  second = λ place less k. by (λ p. p.1) second other before.second place less k (eqb_tells place count);
}
  where
    by : (part : ℕ × ℕ → ℕ) (sets : List ℕ) → ((k : ℕ) → is_bit (part pair) k ≡ has_at sets k count)
        → ((place : ℕ) → place < count → (k : ℕ) → is_bit (part (slice_index_or words place (0, 0))) k ≡ has_at sets k place)
        → (place : ℕ) → place < count + 1 → (k : ℕ)
        → ((place == count) ≡ true) × (place ≡ count) ⊎ ((place == count) ≡ false) × (place ≢ count)
        → is_bit (part (slice_index_or (slice_set words count pair) place (0, 0))) k ≡ has_at sets k place
    by part sets has done place less k (inl same) =
        let long = before.long in
        ap (λ (p : ℕ). is_bit (part (slice_index_or (slice_set words count pair) p (0, 0))) k) same.1
        ∙ ap (λ (w : ℕ × ℕ). is_bit (part w) k) (get_or-set_same words count pair (0, 0) (omega (arith, long, below)))
        ∙ has k ∙ ap (λ (p : ℕ). has_at sets k p) (sym same.1)
    by part sets has done place less k (inr other) =
        let apart = other.1 in
        ap (λ (w : ℕ × ℕ). is_bit (part w) k) (get_or-set_other words count place pair (0, 0) apart) ∙ done place (omega (arith, less, apart)) k

pub sets-all : (count : ℕ) (first second : List ℕ) (words : List (ℕ × ℕ)) → 12 ≤ count → AreSetsTo count first second words
    → AreSetsOf (record { first = first; second = second }) words
sets-all count first second words end are = record {
  twelve = are.long;
  first = λ row. are.first (passing_place row) (let low = place_below row in omega (arith, low, end));
  second = λ row. are.second (passing_place row) (let low = place_below row in omega (arith, low, end));
}

-- the sets of thirty of thirty-two entries, of which the word has thirty bits
pub thirty-read : (sets : List ℕ) (word place k : ℕ) → length sets ≡ 32
    → is_bit word k ≡ (nat_lt k 32 && is_bit (slice_index_or sets k 0) place)
    → is_bit (bit_and word (2 ^ 30 - 1)) k ≡ has_at (take 30 sets) k place
thirty-read sets word place k long has = bits-cut word 30 k ∙ by (nat_lt k 30) refl
  where
    by : (below : Bool) → nat_lt k 30 ≡ below → (below && is_bit word k) ≡ has_at (take 30 sets) k place
    by true is =
        let low : k < 30 = grind (arith, nat_tests, is) in
        let within : nat_lt k 32 ≡ true = grind (arith, nat_tests, is) in
        has ∙ (λ i. within i && is_bit (sym (get_or-take 30 sets k 0 low) i) place)
    by false is =
        let short = length-take-le 30 sets (omega (arith, long)) in
        sym (ap (λ (w : ℕ). is_bit w place) (get_or_past (take 30 sets) k 0 (grind (arith, nat_tests, is, short))) ∙ is_bit-zero place)
