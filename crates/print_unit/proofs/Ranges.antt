-- Lists made by the numbers of a range.
use Rattle.std.proofs.Common.{◌≡◌, ◌≢◌, ◌∙◌, refl, sym, ℕ, zero, suc, ◌+◌, ◌<◌, ◌≤◌, ◌==◌, ◌⊎◌, inl, inr, true, false, slice_set, List, map, length, get_or, slice_index_or, arith}
use Rattle.std.proofs.lemmas.List.{ext_get_or, get_or-set_same, get_or-set_other}
use Rattle.std.proofs.lemmas.Bool.Decides.{eqb_tells}
use Rattle.std.proofs.lemmas.List.FromFn.{get_or-map-range_with_len, length-map-range_with_len}
use Rattle.std.specs.List.{range_with_len}

-- a list is the one that is made of what stands at its places
pub list-made : {X : Type 0} (f : ℕ → X) (list : List X) (d : X) (count : ℕ) → length list ≡ count
    → ((k : ℕ) → k < count → slice_index_or list k d ≡ f k) → map f (range_with_len 0 count) ≡ list
list-made f list d count long same =
    ext_get_or d (map f (range_with_len 0 count)) list (length-map-range_with_len f 0 count ∙ sym long) at
  where
    at : (k : ℕ) → k < length (map f (range_with_len 0 count)) → get_or (map f (range_with_len 0 count)) k d ≡ get_or list k d
    at k below =
        let count_is = length-map-range_with_len f 0 count in
        let inside_it : k < count = omega (arith, below, count_is) in
        get_or-map-range_with_len f 0 count k k d inside_it (omega arith) ∙ sym (same k inside_it)

-- what is made alike by each number of a range
pub map-same : {X : Type 0} (one other : ℕ → X) (from count : ℕ)
    → ((v : ℕ) → from ≤ v → v < from + count → one v ≡ other v)
    → map one (range_with_len from count) ≡ map other (range_with_len from count)
map-same one other from zero same = refl
map-same one other from (suc count) same =
    rw (same from (omega arith) (omega arith), map-same one other (from + 1) count (λ v low high. same v (omega arith) (omega arith)))
    refl

-- a list with one more of the places that are made so
pub places-more : (f : ℕ → ℕ) (list : List ℕ) (count new : ℕ) → count < length list → new ≡ f count
    → ((k : ℕ) → k < count → slice_index_or list k 0 ≡ f k)
    → (k : ℕ) → k < count + 1 → slice_index_or (slice_set list count new) k 0 ≡ f k
places-more f list count new below is_new before k within = by (eqb_tells k count)
  where
    by : ((k == count) ≡ true) × (k ≡ count) ⊎ ((k == count) ≡ false) × (k ≢ count)
        → slice_index_or (slice_set list count new) k 0 ≡ f k
    by (inl same) = rw (same.1, get_or-set_same list count new 0 below) is_new
    by (inr other) =
        let apart = other.1 in
        rw (get_or-set_other list count k new 0 apart) (before k (omega (arith, within, apart)))
