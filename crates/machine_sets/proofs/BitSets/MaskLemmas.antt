-- Masks of lanes: a bit of a mask is its lane; and sets of rows in lanes, of which a mask tells which have a row.
use Rattle.std.proofs.Common.{◌≡◌, ◌∙◌, ℕ, zero, suc, ◌+◌, ◌*◌, ◌%◌, ◌^◌, ◌-◌, ◌<◌, ◌≤◌, arith, refl, ap, Bool, true, false, not, ◌&&◌, ◌==◌, nat_lt, List, length, map, replicate, slice_index_or, bit_and, cond, eqb}
use Rattle.std.proofs.lemmas.Bool.Decides.{nat_tests}
use Rattle.std.proofs.lemmas.List.{get_or_past, get_or-map, length-map}
use Rattle.std.proofs.lemmas.Nat.{one_shl, pow_pos}
use Rattle.std.proofs.lemmas.Nat.Bits.{and_pow, bit_at-lt}
use Rattle.std.proofs.lemmas.Simd.{bitmask_splat, bit_mask_l, get_or-chunk, length-chunk, zip2_splat}
use Rattle.std.specs.Int.{bit_at}
use Rattle.machine_sets.specs.BitSets.Bits.{is_bit}
use lib.Lanes.{chunk, mask_l, top, zip2}
use mir.Syntax.{w16}

-- a bit of a mask is its lane
pub is_bit-mask : (lanes : List Bool) (k : ℕ) → is_bit (mask_l lanes) k ≡ slice_index_or lanes k false
unfolding is_bit
is_bit-mask lanes k = ap (λ (n : ℕ). n == 1) (bit_mask_l lanes k) ∙ by (slice_index_or lanes k false)
  where
    by : (lane : Bool) → (cond {A = ℕ} lane 1 0 == 1) ≡ lane
    by true = refl
    by false = refl

-- what a set has in common with one row is something where it has the row
common-row : (set place : ℕ) → place < 16 → not (eqb (bit_and set (1 * 2 ^ place % 2 ^ 16)) 0) ≡ is_bit set place
unfolding is_bit
common-row set place low =
    ap (λ (m : ℕ). not (eqb (bit_and set m) 0)) (one_shl place 16 low)
    ∙ ap (λ (n : ℕ). not (eqb n 0)) (and_pow set place)
    ∙ by (bit_at set place) (2 ^ place) (bit_at-lt set place) (pow_pos place)
  where
    by : (bit power : ℕ) → bit < 2 → 0 < power → not (eqb (bit * power) 0) ≡ (bit == 1)
    by zero power small some = let none : 0 * power ≡ 0 = omega arith in ap (λ (n : ℕ). not (eqb n 0)) none
    by (suc zero) power small some = grind (arith, nat_tests, some)
    by (suc (suc bit)) power small some = absurd (omega (arith, small))

-- of so many sets from one on those that have a row, as a mask
pub rows-masked : (many : ℕ) (sets : List ℕ) (from place k : ℕ) → many ≤ 64 → from + many ≤ length sets → place < 16
    → is_bit (mask_l (map (top 15) (zip2 (λ a b. cond (not (eqb a b)) (2 ^ 16 - 1) 0)
    (zip2 bit_and (chunk from many sets) (replicate many (1 * 2 ^ place % 2 ^ 16))) (replicate many 0))) % 2 ^ 64) k
    ≡ (nat_lt k many && is_bit (slice_index_or sets (from + k) 0) place)
rows-masked many sets from place k few within low =
    ap (λ (lanes : List ℕ). is_bit (mask_l (map (top 15) (zip2 (λ a b. cond (not (eqb a b)) (2 ^ 16 - 1) 0) lanes (replicate many 0))) % 2 ^ 64) k)
    (zip2_splat bit_and read many mask long)
    ∙ ap (λ (word : ℕ). is_bit word k) (bitmask_splat w16 (λ a b. not (eqb a b)) (map (λ set. bit_and set mask) read) many 0 (length-map read (λ set. bit_and set mask) ∙ long) few)
    ∙ is_bit-mask (map has (map (λ set. bit_and set mask) read)) k
    ∙ by (nat_lt k many) refl
  where
    mask : ℕ
    mask = 1 * 2 ^ place % 2 ^ 16

    read : List ℕ
    read = chunk from many sets

    long : length read ≡ many
    long = length-chunk from many sets within

    has : ℕ → Bool
    has lane = not (eqb lane 0)

    by : (below : Bool) → nat_lt k many ≡ below
        → slice_index_or (map has (map (λ set. bit_and set mask) read)) k false ≡ (below && is_bit (slice_index_or sets (from + k) 0) place)
    by true is =
        let inside : k < many = grind (arith, nat_tests, is) in
        get_or-map has (map (λ set. bit_and set mask) read) k 0 false (let m = length-map read (λ set. bit_and set mask) in omega (arith, inside, long, m))
        ∙ ap has (get_or-map (λ set. bit_and set mask) read k 0 0 (omega (arith, inside, long)))
        ∙ ap (λ set. has (bit_and set mask)) (get_or-chunk from many sets k 0 inside)
        ∙ common-row (slice_index_or sets (from + k) 0) place low
    by false is =
        let m = length-map read (λ set. bit_and set mask) in
        let n = length-map (map (λ set. bit_and set mask) read) has in
        get_or_past (map has (map (λ set. bit_and set mask) read)) k false (grind (arith, nat_tests, is, long, m, n))
