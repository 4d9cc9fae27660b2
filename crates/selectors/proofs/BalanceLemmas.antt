-- The row of the transferred balance positions, four of each group.
use Rattle.std.proofs.Common.{◌≡◌, ◌≢◌, ◌<◌, ◌+◌, ◌-◌, ◌*◌, ◌%◌, ◌^◌, ◌∙◌, ap, refl, sym, arith, ℕ, Bool, true, false, not, ◌&&◌, ◌||◌, List, length, slice_index_or, slice_set, ◌⊎◌, inl, inr, if◌then◌else◌}
use Rattle.std.specs.Prelude.{◌==◌, nat_le, nat_lt}
use Rattle.std.specs.Int.{bit_not, w128}
use Rattle.std.specs.Int.Bits.{bit_and, bit_or}
use Rattle.std.proofs.lemmas.Bool.{cases_eq}
use Rattle.std.proofs.lemmas.Bool.Decides.{nat_tests}
use Rattle.std.proofs.lemmas.List.{get_or-set_same, get_or-set_other, length-set}
use Rattle.std.proofs.lemmas.Nat.{and_le_l, or_lt}
use Rattle.std.proofs.Math.Nat.{mod-lt}
use Rattle.net.proofs.Below.machine_sets.BitSets.BitLemmas.{is_bit-and, is_bit-low, is_bit-not, is_bit-ones, is_bit-or, is_bit-shl}
use Rattle.net.specs.HubSets.{is_bit}
use Rattle.selectors.specs.Fields.{latches_in}
use Rattle.selectors.specs.Numbered.{tests_to}
use Rattle.selectors.specs.Spread.{spread}
use Rattle.selectors.proofs.NumberedLemmas.{all-tests}
use Rattle.selectors.proofs.SpreadLemmas.{same-parts, spread-below, spread-bit}

-- there is a latch for each group
pub latches-long : (row : ℕ) → length (latches_in row) ≡ 32
unfolding tests_to
latches-long row = refl

-- the row of latches tells them
pub row-tells : (row : ℕ) (latches : List Bool) → length latches ≡ 32 → row ≡ spread 4 latches → latches_in row ≡ latches
row-tells row latches long is =
    ap latches_in is
    ∙ sym
    (all-tests 32 latches (λ group. is_bit (spread 4 latches) ((group - 1) * 4)) long
    (λ k below. sym (first k below)))
  where
    first : (k : ℕ) → k < 32 → is_bit (spread 4 latches) ((k + 1 - 1) * 4) ≡ slice_index_or latches k false
    first k below = let place : (k + 1 - 1) * 4 ≡ k * 4 + 0 = omega arith in
        ap (is_bit (spread 4 latches)) place ∙ spread-bit 4 latches k 0 (omega arith) (omega (arith, below, long))

-- and is that of the latches in it
pub row-of : (row : ℕ) (latches : List Bool) → length latches ≡ 32 → row ≡ spread 4 latches → row ≡ spread 4 (latches_in row)
row-of row latches long is = is ∙ ap (spread 4) (sym (row-tells row latches long is))

-- whether a bit of the row is one of a group's four
abbrev pub is_position : ℕ → ℕ → Bool
is_position place bit = nat_le (4 * place) bit && nat_lt (bit - 4 * place) 4

-- the four positions of a group, as code makes them
positions-bit : (place j : ℕ) → j < 128 → is_bit (15 * 2 ^ (4 * place) % 2 ^ 128) j ≡ is_position place j
positions-bit place j low =
    is_bit-low (15 * 2 ^ (4 * place)) 128 j low ∙ is_bit-shl 15 (4 * place) j
    ∙ ap (λ b. nat_le (4 * place) j && b) (is_bit-ones 4 (j - 4 * place))

joined-bit : (row place j : ℕ) → j < 128
    → is_bit (bit_or row (15 * 2 ^ (4 * place) % 2 ^ 128)) j ≡ (if is_position place j then true else is_bit row j)
joined-bit row place j low =
    is_bit-or row (15 * 2 ^ (4 * place) % 2 ^ 128) j ∙ ap (λ b. is_bit row j || b) (positions-bit place j low)
    ∙ by (is_bit row j) (is_position place j)
  where
    by : (a b : Bool) → (a || b) ≡ (if b then true else a)
    by a b = grind (arith, nat_tests)

cleared-bit : (row place j : ℕ) → j < 128
    → is_bit (bit_and row (bit_not w128 (15 * 2 ^ (4 * place) % 2 ^ 128))) j ≡ (if is_position place j then false else is_bit row j)
cleared-bit row place j low =
    is_bit-and row (bit_not w128 (15 * 2 ^ (4 * place) % 2 ^ 128)) j
    ∙ ap (λ b. is_bit row j && b)
    (is_bit-not w128 (15 * 2 ^ (4 * place) % 2 ^ 128) j (mod-lt _ (omega arith)) low ∙ ap not (positions-bit place j low))
    ∙ by (is_bit row j) (is_position place j)
  where
    by : (a b : Bool) → (a && not b) ≡ (if b then false else a)
    by a b = grind (arith, nat_tests)

-- the row of the latches where one is set or reset
row-set : (row new place : ℕ) (latch : Bool) (latches : List Bool) → length latches ≡ 32 → place < 32
    → row ≡ spread 4 latches → new < 2 ^ 128
    → ((j : ℕ) → j < 128 → is_bit new j ≡ (if is_position place j then latch else is_bit row j))
    → new ≡ spread 4 (slice_set latches place latch)
row-set row new place latch latches long within is small bits =
    same-parts 4 32 new (spread 4 changed) (omega arith) small below at
  where
    changed : List Bool
    changed = slice_set latches place latch

    changed-long : length changed ≡ 32
    changed-long = length-set latches place latch ∙ long

    below : spread 4 changed < 2 ^ 128
    below = let e = spread-below 4 changed in fits (length changed) changed-long e
      where
        fits : (n : ℕ) → n ≡ 32 → spread 4 changed < 2 ^ (4 * n) → spread 4 changed < 2 ^ 128
        fits n is less = let e = rw is at less in e

    -- a bit is that of a group's position
    one_of : (t p : ℕ) → p < 4 → is_position place (t * 4 + p) ≡ (t == place)
    one_of t p part = grind (arith, nat_tests, part)

    at : (t p : ℕ) → t < 32 → p < 4 → is_bit new (t * 4 + p) ≡ is_bit (spread 4 changed) (t * 4 + p)
    at t p there part =
        bits (t * 4 + p) (omega (arith, there, part))
        ∙ ap (λ b. if b then latch else is_bit row (t * 4 + p)) (one_of t p part)
        ∙ ap (λ b. if t == place then latch else b)
        (ap (λ w. is_bit w (t * 4 + p)) is ∙ spread-bit 4 latches t p part (omega (arith, there, long)))
        ∙ by (cases_eq t place)
        ∙ sym (spread-bit 4 changed t p part (omega (arith, there, changed-long)))
      where
        chosen : (b x y : Bool) → b ≡ true → (if b then x else y) ≡ x
        chosen b x y e = ap (λ (c : Bool). if c then x else y) e

        left : (b x y : Bool) → b ≡ false → (if b then x else y) ≡ y
        left b x y e = ap (λ (c : Bool). if c then x else y) e

        by : (t ≡ place) ⊎ (t ≢ place)
            → (if t == place then latch else slice_index_or latches t false) ≡ slice_index_or changed t false
        by (inl same) = chosen (t == place) latch (slice_index_or latches t false) (grind (arith, nat_tests, same))
            ∙ sym (ap (λ k. slice_index_or changed k false) same ∙ get_or-set_same latches place latch false (omega (arith, long, within)))
        by (inr other) = left (t == place) latch (slice_index_or latches t false) (grind (arith, nat_tests, other))
            ∙ sym (get_or-set_other latches place t latch false other)

-- as code sets one
pub row-joined : (row place : ℕ) (latch : Bool) (latches : List Bool) → latch ≡ true → row < 2 ^ 128 → length latches ≡ 32 → place < 32
    → row ≡ spread 4 latches
    → bit_or row (15 * 2 ^ (4 * place) % 2 ^ 128) ≡ spread 4 (slice_set latches place latch)
row-joined row place latch latches on small long within is =
    row-set row _ place true latches long within is (or_lt 128 row _ small (mod-lt _ (omega arith))) (joined-bit row place)
    ∙ ap (λ b. spread 4 (slice_set latches place b)) (sym on)

-- and resets it
pub row-cleared : (row place : ℕ) (latch : Bool) (latches : List Bool) → latch ≡ false → row < 2 ^ 128 → length latches ≡ 32 → place < 32
    → row ≡ spread 4 latches
    → bit_and row (bit_not w128 (15 * 2 ^ (4 * place) % 2 ^ 128)) ≡ spread 4 (slice_set latches place latch)
row-cleared row place latch latches off small long within is =
    row-set row _ place false latches long within is
    (omega (arith, small, and_le_l row (bit_not w128 (15 * 2 ^ (4 * place) % 2 ^ 128)))) (cleared-bit row place)
    ∙ ap (λ b. spread 4 (slice_set latches place b)) (sym off)
