-- The row of the positions of pilots, three of each, which are put there pilot after pilot.
use Rattle.std.proofs.Common.{◌≡◌, ◌≢◌, ◌<◌, ◌≤◌, ◌+◌, ◌-◌, ◌*◌, ◌^◌, ◌%◌, ◌∙◌, ◌⊎◌, inl, inr, ap, refl, sym, arith, ℕ, Bool, true, false, not, ◌==◌, ◌&&◌, ◌||◌, nat_le, nat_lt, bit_and, bit_or, length, slice_index_or}
use Rattle.std.specs.Int.{bit_not, trailing_zeros, w64}
use Rattle.std.proofs.lemmas.Bool.{cases_lt, false≢true}
use Rattle.std.proofs.lemmas.Bool.Decides.{eqb_tells, nat_tests}
use Rattle.std.proofs.lemmas.List.FromFn.{get_or-map-range_with_len}
use Rattle.std.proofs.lemmas.Nat.{and_le_l, or_lt}
use Rattle.std.proofs.Math.Nat.{mod-le, pow-le-pow_right}
use Rattle.hubs.specs.HubTable.Ranges.{is_within}
use Rattle.net.proofs.Below.machine_sets.BitSets.BitLemmas.{is_bit-above, is_bit-low, is_bit-ones, is_bit-or, is_bit-shl, is_bit-taken, is_bit-zero, lowest_bit}
use Rattle.net.specs.HubSets.{is_bit}
use Rattle.selectors.specs.Numbered.{tests_to}
use Rattle.selectors.specs.PilotWords.{pilots_in}
use Rattle.selectors.specs.Spread.{spread}
use Rattle.selectors.proofs.SpreadLemmas.{same-parts, spread-below, spread-bit}

-- there are sixteen pilots
pub pilots-long : (word : ℕ) → length (pilots_in word) ≡ 16
unfolding tests_to
pilots-long word = refl

-- the bit of a pilot
pub pilot-bit : (word place : ℕ) → place < 16 → slice_index_or (pilots_in word) place false ≡ is_bit word place
unfolding tests_to
pilot-bit word place low =
    let index : place + 1 - 1 ≡ place = omega arith in
    get_or-map-range_with_len (λ pilot. is_bit word (pilot - 1)) 1 16 place (place + 1) false (omega (arith, low)) (omega arith)
    ∙ ap (is_bit word) index

-- whether a pilot is one of them, by its bit
pub pilot-told : (word pilot : ℕ) → 1 ≤ pilot → pilot ≤ 16
    → is_bit word (pilot - 1) ≡ (is_within pilot 16 && slice_index_or (pilots_in word) (pilot - 1) false)
pilot-told word pilot low high =
    let within : is_within pilot 16 ≡ true = grind (arith, nat_tests, low, high) in
    sym
    (ap (λ b. b && slice_index_or (pilots_in word) (pilot - 1) false) within
    ∙ pilot-bit word (pilot - 1) (omega (arith, low, high)))

-- The row has the three positions of each pilot that is no longer left, and nothing else.
pub record HasPositions (pilots left row : ℕ) : Type 0 where
  pub few : left < 2 ^ 16
  pub within : (place : ℕ) → place < 16 → (is_bit left place && is_bit pilots place) ≡ is_bit left place
  pub small : row < 2 ^ 48
  pub has :
      (place part : ℕ) → place < 16 → part < 3
      → is_bit row (place * 3 + part) ≡ (is_bit pilots place && not (is_bit left place))

-- all pilots are left
pub positions-none : (pilots left : ℕ) → left ≡ pilots → pilots < 2 ^ 16 → HasPositions pilots left 0
positions-none pilots left is small = record {
  few = rw is small;
  within = λ place low. ap (λ n. is_bit n place && is_bit pilots place) is ∙ both (is_bit pilots place) ∙ sym (ap (λ n. is_bit n place) is);
  small = omega arith;
  has = λ place part low one.
      is_bit-zero (place * 3 + part) ∙ sym (none (is_bit pilots place))
      ∙ sym (ap (λ n. is_bit pilots place && not (is_bit n place)) is);
}
  where
    both : (b : Bool) → (b && b) ≡ b
    both true = refl
    both false = refl

    none : (b : Bool) → (b && not b) ≡ false
    none true = refl
    none false = refl

-- the lowest of those that are left is a pilot
pub lowest-left : (pilots left row : ℕ) → left ≢ 0 → HasPositions pilots left row
    → (trailing_zeros w64 left < 16) × (is_bit left (trailing_zeros w64 left) ≡ true)
lowest-left pilots left row some are =
    let few = are.few in
    let lowest = lowest_bit left (omega (arith, some)) (omega (arith, few)) in
    (by (cases_lt (trailing_zeros w64 left) 16) lowest.1, lowest.1)
  where
    by : (trailing_zeros w64 left < 16) ⊎ (16 ≤ trailing_zeros w64 left) → is_bit left (trailing_zeros w64 left) ≡ true
        → trailing_zeros w64 left < 16
    by (inl low) on = low
    by (inr high) on = absurd (false≢true (sym (is_bit-above left 16 (trailing_zeros w64 left) are.few high) ∙ on))

-- a pilot less is left, and its three positions are in the row
one-more : (pilots left row at : ℕ) → at < 16 → is_bit left at ≡ true → HasPositions pilots left row
    → HasPositions pilots (bit_and left (bit_not w64 (1 * 2 ^ at % 2 ^ 64))) (bit_or row (7 * 2 ^ (3 * at) % 2 ^ 128))
one-more pilots left row at there on are = record {
  few = let less = and_le_l left (bit_not w64 (1 * 2 ^ at % 2 ^ 64)) in let few = are.few in omega (arith, less, few);
  within = λ place low.
      let was = are.within place low in
      rw (is_bit-taken left at place (omega (arith, there)) (omega (arith, low))) (grind (arith, nat_tests, was));
  small = or_lt 48 row (7 * 2 ^ (3 * at) % 2 ^ 128) are.small fits;
  has = λ place part low one.
      is_bit-or row (7 * 2 ^ (3 * at) % 2 ^ 128) (place * 3 + part)
      ∙ (λ i. are.has place part low one i || position place part low one i)
      ∙ joined (is_bit pilots place) (is_bit left place) (place == at) (are.within place low) (on_at place (eqb_tells place at))
      ∙ sym (ap (λ b. is_bit pilots place && not b) (is_bit-taken left at place (omega (arith, there)) (omega (arith, low))));
}
  where
    fits : 7 * 2 ^ (3 * at) % 2 ^ 128 < 2 ^ 48
    fits = by (2 ^ (3 * at)) (7 * 2 ^ (3 * at) % 2 ^ 128) (mod-le (7 * 2 ^ (3 * at)) (2 ^ 128))
        (pow-le-pow_right {n = 2} (omega arith) {i = 3 * at} {j = 45} (omega (arith, there)))
      where
        by : (power cut : ℕ) → cut ≤ 7 * power → power ≤ 2 ^ 45 → cut < 2 ^ 48
        by power cut less most = omega (arith, less, most)

    -- the three positions as code makes them
    position : (place part : ℕ) → place < 16 → part < 3 → is_bit (7 * 2 ^ (3 * at) % 2 ^ 128) (place * 3 + part) ≡ (place == at)
    position place part low one =
        is_bit-low (7 * 2 ^ (3 * at)) 128 (place * 3 + part) (omega (arith, low, one)) ∙ is_bit-shl 7 (3 * at) (place * 3 + part)
        ∙ ap (λ b. nat_le (3 * at) (place * 3 + part) && b) (is_bit-ones 3 (place * 3 + part - 3 * at))
        ∙ one_of place part one
      where
        one_of : (place part : ℕ) → part < 3
            → (nat_le (3 * at) (place * 3 + part) && nat_lt (place * 3 + part - 3 * at) 3) ≡ (place == at)
        one_of place part one = grind (arith, nat_tests, one)

    on_at : (place : ℕ) → ((place == at) ≡ true) × (place ≡ at) ⊎ ((place == at) ≡ false) × (place ≢ at)
        → (place == at) ≡ true → is_bit left place ≡ true
    on_at place (inl same) is = ap (is_bit left) same.1 ∙ on
    on_at place (inr other) is = absurd (false≢true (sym other.0 ∙ is))

    joined : (pilot is_left is_at : Bool) → (is_left && pilot) ≡ is_left → (is_at ≡ true → is_left ≡ true)
        → ((pilot && not is_left) || is_at) ≡ (pilot && not (is_left && not is_at))
    joined true true true within left_at = refl
    joined true true false within left_at = refl
    joined true false true within left_at = refl
    joined true false false within left_at = refl
    joined false true is_at within left_at = absurd (false≢true within)
    joined false false true within left_at = absurd (false≢true (left_at refl))
    joined false false false within left_at = refl

pub positions-more : (pilots left row : ℕ) → left ≢ 0 → HasPositions pilots left row
    → HasPositions pilots (bit_and left (bit_not w64 (1 * 2 ^ trailing_zeros w64 left % 2 ^ 64)))
    (bit_or row (7 * 2 ^ (3 * trailing_zeros w64 left) % 2 ^ 128))
positions-more pilots left row some are =
    let lowest = lowest-left pilots left row some are in
    one-more pilots left row (trailing_zeros w64 left) lowest.0 lowest.1 are

-- none is left
pub positions-all : (pilots left row : ℕ) → left ≡ 0 → HasPositions pilots left row → row ≡ spread 3 (pilots_in pilots)
positions-all pilots left row none are = same-parts 3 16 row (spread 3 (pilots_in pilots)) (omega arith) are.small below each
  where
    below : spread 3 (pilots_in pilots) < 2 ^ 48
    below = fits (length (pilots_in pilots)) (pilots-long pilots) (spread-below 3 (pilots_in pilots))
      where
        fits : (n : ℕ) → n ≡ 16 → spread 3 (pilots_in pilots) < 2 ^ (3 * n) → spread 3 (pilots_in pilots) < 2 ^ 48
        fits n is less = let e = rw is at less in e

    whole : (b : Bool) → (b && not false) ≡ b
    whole true = refl
    whole false = refl

    each : (place part : ℕ) → place < 16 → part < 3
        → is_bit row (place * 3 + part) ≡ is_bit (spread 3 (pilots_in pilots)) (place * 3 + part)
    each place part low one =
        let long = pilots-long pilots in
        are.has place part low one
        ∙ ap (λ b. is_bit pilots place && not b) (ap (λ n. is_bit n place) none ∙ is_bit-zero place)
        ∙ whole (is_bit pilots place)
        ∙ sym (spread-bit 3 (pilots_in pilots) place part one (omega (arith, low, long)) ∙ pilot-bit pilots place low)
