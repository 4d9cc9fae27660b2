-- Sets of rows as numbers: how they are gathered from the words of the wheels, and the characters that they print.
use Rattle.std.proofs.Common.{◌≡◌, ◌≢◌, ◌∙◌, refl, sym, ap, subst, ℕ, ◌+◌, ◌*◌, ◌%◌, ◌^◌, ◌-◌, ◌<◌, ◌==◌, ◌&&◌, ◌||◌, not, ◌⊎◌, inl, inr, nat_le, nat_lt, Bool, true, false, List, [], length, take, drop, slice_index_or, slice_set, bit_and, bit_or, arith}
use Rattle.std.proofs.lemmas.Bool.Decides.{eqb_tells, nat_tests}
use Rattle.std.proofs.Math.Bool.{or-false}
use Rattle.std.proofs.lemmas.List.{get_or-drop, get_or-set_same, get_or-set_other, length-set, take_rest}
use Rattle.std.proofs.lemmas.List.Folds.{list_any_more}
use Rattle.std.proofs.lemmas.Nat.{and_le_l}
use Rattle.std.proofs.lemmas.Nat.Bits.{bit_at-trailing_zeros}
use Rattle.std.specs.Int.{bit_not, w128, trailing_zeros}
use Rattle.net.specs.HubSets.{is_bit}
use Rattle.net.specs.Straight.{is_brought_by}
use Rattle.net.specs.declared.straight.Straight.{Straight}
use Rattle.print_unit.specs.RowSets.{rows_in, Receives, ReceivesRuns, TakesRow}
use Rattle.print_unit.proofs.Bits.{is_bit-zero, is_bit-and, is_bit-or, is_bit-joined, is_bit-cleared, is_bit-ones}
use Rattle.print_unit.proofs.Ranges.{map-same}

-- The wheels of a word that are no longer left have taken the row of a place.
pub record TakesLeft (word left place : ℕ) (old new : List ℕ) : Type 0 where
  pub within : (k : ℕ) → k < 128 → (is_bit left k && is_bit word k) ≡ is_bit left k
  pub taken :
      (k : ℕ) → k < 128 → (p : ℕ)
      → is_bit (slice_index_or new k 0) p
      ≡ (is_bit (slice_index_or old k 0) p || (p == place) && (is_bit word k && not (is_bit left k)))
  pub bits : length new ≡ 128

-- the place of the lowest bit of a word that has one
lowest : (left : ℕ) → left ≢ 0 → left < 2 ^ 128 → (trailing_zeros w128 left < 128) × (is_bit left (trailing_zeros w128 left) ≡ true)
unfolding is_bit
lowest left some small =
    let facts = bit_at-trailing_zeros w128 left (omega (arith, some)) small in
    let on = facts.1 in
    (facts.0, rw on refl)

-- a word is smaller without its lowest bit
pub without_lowest-smaller : (left : ℕ) → left ≢ 0 → left < 2 ^ 128
    → bit_and left (bit_not w128 (1 * 2 ^ trailing_zeros w128 left % 2 ^ 128)) < left
without_lowest-smaller left some small =
    by (trailing_zeros w128 left) (lowest left some small).0 (lowest left some small).1
  where
    by : (k : ℕ) → k < 128 → is_bit left k ≡ true → bit_and left (bit_not w128 (1 * 2 ^ k % 2 ^ 128)) < left
    by k below on =
        let less = and_le_l left (bit_not w128 (1 * 2 ^ k % 2 ^ 128)) in
        let off = is_bit-cleared left k k below below in
        let apart : bit_and left (bit_not w128 (1 * 2 ^ k % 2 ^ 128)) ≢ left =
        λ same. absurd (differ (sym off ∙ ap (λ n. is_bit n k) same ∙ on)) in
        omega (arith, less, apart)
      where
        differ : (is_bit left k && not (k == k)) ≡ true → ⊥
        differ wrong = grind (arith, nat_tests, wrong)

-- the wheel of a bit takes the row
takes-bit : (word left rest place k : ℕ) (old now : List ℕ) → k < 128 → place < 12 → is_bit left k ≡ true
    → ((j : ℕ) → j < 128 → is_bit rest j ≡ (is_bit left j && not (j == k)))
    → TakesLeft word left place old now
    → TakesLeft word rest place old (slice_set now k (bit_or (slice_index_or now k 0) (1 * 2 ^ place % 2 ^ 16)))
takes-bit word left rest place k old now below narrow on cleared takes = record {
  within = λ j wide. let w = takes.within j wide in rw (cleared j wide) (grind (arith, nat_tests, w));
  taken = λ j wide p. by j wide p (eqb_tells j k);
  bits = length-set now k (bit_or (slice_index_or now k 0) (1 * 2 ^ place % 2 ^ 16)) ∙ takes.bits;
}
  where
    by : (j : ℕ) → j < 128 → (p : ℕ) → ((j == k) ≡ true) × (j ≡ k) ⊎ ((j == k) ≡ false) × (j ≢ k)
        → is_bit (slice_index_or (slice_set now k (bit_or (slice_index_or now k 0) (1 * 2 ^ place % 2 ^ 16))) j 0) p
        ≡ (is_bit (slice_index_or old j 0) p || (p == place) && (is_bit word j && not (is_bit rest j)))
    by j wide p (inl same) =
        let before = takes.taken k below p in
        let w = takes.within k below in
        let l = takes.bits in
        let gone = cleared k below in
        rw (same.1, get_or-set_same now k (bit_or (slice_index_or now k 0) (1 * 2 ^ place % 2 ^ 16)) 0 (omega (arith, l, below)), is_bit-joined 16 (slice_index_or now k 0) place p (omega (arith, narrow)), before)
        (grind (arith, nat_tests, w, on, gone))
    by j wide p (inr other) =
        let before = takes.taken j wide p in
        let kept = cleared j wide in
        let apart = other.0 in
        rw (get_or-set_other now k j (bit_or (slice_index_or now k 0) (1 * 2 ^ place % 2 ^ 16)) 0 other.1, before, kept, apart)
        (grind (arith, nat_tests))

-- the wheel of the lowest bit that is left takes the row
pub takes-lowest : (word left place : ℕ) (old now : List ℕ) → left ≢ 0 → left < 2 ^ 128 → place < 12
    → TakesLeft word left place old now
    → TakesLeft word (bit_and left (bit_not w128 (1 * 2 ^ trailing_zeros w128 left % 2 ^ 128))) place old
    (slice_set now (trailing_zeros w128 left) (bit_or (slice_index_or now (trailing_zeros w128 left) 0) (1 * 2 ^ place % 2 ^ 16)))
takes-lowest word left place old now some small narrow takes =
    let at = lowest left some small in
    let k = trailing_zeros w128 left in
    takes-bit word left (bit_and left (bit_not w128 (1 * 2 ^ k % 2 ^ 128))) place k old now at.0 narrow at.1 (λ j wide. is_bit-cleared left k j at.0 wide) takes

-- nothing is received yet
pub receives-none : (first : ℕ) (received sets : List ℕ) → Receives first 0 received sets sets
receives-none first received sets k below p =
    none (is_bit (slice_index_or sets k 0) p) (is_bit (slice_index_or received (k - first) 0) p)
  where
    none : (a b : Bool) → a ≡ (a || nat_le first k && (nat_lt (k - first) 0 && b))
    none a b = grind (arith, nat_tests)

-- a wheel more receives
pub receives-more : (first count : ℕ) (received old now : List ℕ) → length now ≡ 128 → first + count < 120
    → Receives first count received old now
    → Receives first (count + 1) received old
    (slice_set now (first + count) (bit_or (slice_index_or now (first + count) 0) (slice_index_or received count 0)))
receives-more first count received old now long inside before k below p = by (eqb_tells k (first + count))
  where
    joined : ℕ
    joined = bit_or (slice_index_or now (first + count) 0) (slice_index_or received count 0)

    by : ((k == first + count) ≡ true) × (k ≡ first + count) ⊎ ((k == first + count) ≡ false) × (k ≢ first + count)
        → is_bit (slice_index_or (slice_set now (first + count) joined) k 0) p
        ≡ (is_bit (slice_index_or old k 0) p
        || nat_le first k && (nat_lt (k - first) (count + 1) && is_bit (slice_index_or received (k - first) 0) p))
    by (inl same) =
        let was = before (first + count) inside p in
        let place : first + count - first ≡ count = omega arith in
        rw (same.1, get_or-set_same now (first + count) joined 0 (omega (arith, long, inside)), is_bit-or (slice_index_or now (first + count) 0) (slice_index_or received count 0) p, was, place)
        (grind (arith, nat_tests))
    by (inr other) =
        let apart = other.1 in
        let was = before k below p in
        rw (get_or-set_other now (first + count) k joined 0 apart, was) (grind (arith, nat_tests, apart))

-- no run has brought anything yet
pub runs-none : (columns sets : List ℕ) → ReceivesRuns columns [] sets sets
runs-none columns sets k below p = sym (or-false (is_bit (slice_index_or sets k 0) p))

-- a run more brings rows of its columns
pub runs-more : (columns old now new : List ℕ) (runs : List Straight) (index : ℕ) (d run : Straight) → index < length runs
    → run ≡ slice_index_or runs index d
    → length columns ≡ 80
    → ReceivesRuns columns (take index runs) old now
    → Receives run.wheel run.count (take (80 - run.column) (drop run.column columns)) now new
    → ReceivesRuns columns (take (index + 1) runs) old new
runs-more columns old now new runs index d run inside is long before receives k below p =
    let rest =
    subst (λ (n : ℕ). take (n - run.column) (drop run.column columns) ≡ drop run.column columns) long (take_rest columns run.column) in
    receives k below p
    ∙ ap (λ (set : ℕ). is_bit (slice_index_or now k 0) p || nat_le run.wheel k && (nat_lt (k - run.wheel) run.count && is_bit set p))
    (ap (λ (sets : List ℕ). slice_index_or sets (k - run.wheel) 0) rest ∙ get_or-drop run.column columns (k - run.wheel) 0)
    ∙ rw (before k below p, list_any_more (is_brought_by columns k p) runs index d inside, sym is) (grind (arith, nat_tests))

-- the lowest twelve bits of a set
pub rows_in-low : (number : ℕ) → rows_in (bit_and number (2 ^ 12 - 1)) ≡ rows_in number
rows_in-low number =
    map-same (λ place. is_bit (bit_and number (2 ^ 12 - 1)) place) (λ place. is_bit number place) 0 12 (λ p low high. masked p high)
  where
    ones : (p : ℕ) → p < 12 → is_bit (2 ^ 12 - 1) p ≡ true
    ones p below = is_bit-ones 12 p below

    masked : (p : ℕ) → p < 12 → is_bit (bit_and number (2 ^ 12 - 1)) p ≡ is_bit number p
    masked p below = is_bit-and number (2 ^ 12 - 1) p ∙ rw (ones p below) (grind (arith, nat_tests))

-- where none are left all wheels of the word have taken the row
pub takes-all : (word left place : ℕ) (old new : List ℕ) → left ≡ 0 → TakesLeft word left place old new
    → TakesRow word place old new
takes-all word left place old new none takes k wide p =
    takes.taken k wide p ∙ rw (none, is_bit-zero k) (grind (arith, nat_tests))
