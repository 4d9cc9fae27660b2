-- Wheels in lanes: masks of characters and of sets.
use Rattle.std.proofs.Common.{◌≡◌, ◌∙◌, ℕ, ◌+◌, ◌-◌, ◌*◌, ◌%◌, ◌^◌, ◌<◌, ◌≤◌, arith, refl, sym, ap, Bool, true, false, not, ◌&&◌, ◌||◌, ◌==◌, nat_eq, nat_lt, List, length, get_or, map, replicate, slice_index_or, bit_and, bit_or, cond, eqb, leb, ltb}
use Rattle.std.specs.Prelude.{nat_le}
use Rattle.std.proofs.lemmas.Bool.Decides.{nat_tests}
use Rattle.std.proofs.lemmas.List.{get_or_past, get_or-map, length-map}
use Rattle.std.proofs.lemmas.Simd.{bitmask_splat, bit_mask_l, get_or-chunk, length-chunk, map-map, mask_l-mod, zip2_of_maps, zip2_splat, zip2_splat_left}
use Rattle.net.proofs.Below.machine_sets.BitSets.BitLemmas.{is_bit-low, is_bit-or, is_bit-shl, is_bit-zero}
use Rattle.net.specs.HubSets.{is_bit}
use Rattle.print_unit.specs.WheelWords.{is_between}
use lib.Lanes.{chunk, mask_l, top, zip2}
use mir.Syntax.{w16}

-- a bit of a mask is its lane
is_bit-mask : (lanes : List Bool) (k : ℕ) → is_bit (mask_l lanes) k ≡ slice_index_or lanes k false
unfolding is_bit
is_bit-mask lanes k = ap (λ (n : ℕ). n == 1) (bit_mask_l lanes k) ∙ by (slice_index_or lanes k false)
  where
    by : (lane : Bool) → (cond {A = ℕ} lane 1 0 == 1) ≡ lane
    by true = refl
    by false = refl

-- the characters from one on that come before another, of sixty-four, as a mask
pub characters-masked : (line : List ℕ) (from first last k : ℕ) → from + 64 ≤ length line
    → is_bit (mask_l (map (top 7) (zip2 bit_and
    (zip2 (λ a b. cond (leb a b) 255 0) (replicate 64 first) (chunk from 64 line))
    (zip2 (λ a b. cond (ltb a b) 255 0) (chunk from 64 line) (replicate 64 last)))) % 2 ^ 64) k
    ≡ (nat_lt k 64 && is_between first last (slice_index_or line (from + k) 0))
characters-masked line from first last k within =
    ap (λ (lanes : List Bool). is_bit (mask_l lanes % 2 ^ 64) k) tops
    ∙ ap (λ (word : ℕ). is_bit word k) (mask_l-mod (map (is_between first last) read) 64 (omega (arith, many, long)))
    ∙ is_bit-mask (map (is_between first last) read) k
    ∙ by (nat_lt k 64) refl
  where
    read : List ℕ
    read = chunk from 64 line

    long : length read ≡ 64
    long = length-chunk from 64 line within

    many : length (map (is_between first last) read) ≡ length read
    many = length-map read (is_between first last)

    both : (one other : Bool) → top 7 (bit_and (cond one 255 0) (cond other 255 0)) ≡ (one && other)
    both true true = refl
    both true false = refl
    both false true = refl
    both false false = refl

    past : (character : ℕ) → ltb character last ≡ not (nat_le last character)
    past character = grind (arith, nat_tests)

    tells : (character : ℕ)
        → top 7 (bit_and (cond (leb first character) 255 0) (cond (ltb character last) 255 0)) ≡ is_between first last character
    tells character = both (leb first character) (ltb character last) ∙ ap (λ (before : Bool). leb first character && before) (past character)

    tops : map (top 7) (zip2 bit_and
        (zip2 (λ a b. cond (leb a b) 255 0) (replicate 64 first) read)
        (zip2 (λ a b. cond (ltb a b) 255 0) read (replicate 64 last)))
        ≡ map (is_between first last) read
    tops =
        ap (map (top 7))
        (zip2_of_maps bit_and (λ character. cond (leb first character) 255 0) (λ character. cond (ltb character last) 255 0) read
        (zip2_splat_left (λ a b. cond (leb a b) 255 0) first 64 read long)
        (zip2_splat (λ a b. cond (ltb a b) 255 0) read 64 last long))
        ∙ map-map (top 7) (λ character. bit_and (cond (leb first character) 255 0) (cond (ltb character last) 255 0)) read
        ∙ (λ i. map (λ character. tells character i) read)

    by : (below : Bool) → nat_lt k 64 ≡ below
        → slice_index_or (map (is_between first last) read) k false ≡ (below && is_between first last (slice_index_or line (from + k) 0))
    by true is =
        let inside : k < 64 = grind (arith, nat_tests, is) in
        get_or-map (is_between first last) read k 0 false (omega (arith, inside, long))
        ∙ ap (is_between first last) (get_or-chunk from 64 line k 0 inside)
    by false is = get_or_past (map (is_between first last) read) k false (grind (arith, nat_tests, is, long, many))

-- the wheels, of which sixty-four are looked at from the first one on and from the fifty-seventh on
pub wheels-masked : (left right k : ℕ) (test : ℕ → Bool) → k < 120
    → ((j : ℕ) → is_bit left j ≡ (nat_lt j 64 && test (0 + j)))
    → ((j : ℕ) → is_bit right j ≡ (nat_lt j 64 && test (56 + j)))
    → is_bit (bit_or left (right * 2 ^ 56 % 2 ^ 128)) k ≡ test k
wheels-masked left right k test below one other =
    is_bit-or left (right * 2 ^ 56 % 2 ^ 128) k
    ∙ (λ i. front i || moved i)
    ∙ by (nat_le 56 k) (nat_lt k 64) refl refl
  where
    front : is_bit left k ≡ (nat_lt k 64 && test k)
    front = one k ∙ ap (λ (j : ℕ). nat_lt k 64 && test j) (omega arith)

    index : nat_le 56 k ≡ true → 56 + (k - 56) ≡ k
    index high = grind (arith, nat_tests, high)

    down : (from : Bool) → nat_le 56 k ≡ from → (from && is_bit right (k - 56)) ≡ (from && test k)
    down true is =
        let inside : nat_lt (k - 56) 64 ≡ true = grind (arith, nat_tests, is, below) in
        other (k - 56) ∙ (λ i. inside i && test (index is i))
    down false is = refl

    moved : is_bit (right * 2 ^ 56 % 2 ^ 128) k ≡ (nat_le 56 k && test k)
    moved = is_bit-low (right * 2 ^ 56) 128 k (omega (arith, below)) ∙ is_bit-shl right 56 k ∙ down (nat_le 56 k) refl

    by : (high low : Bool) → nat_le 56 k ≡ high → nat_lt k 64 ≡ low → ((low && test k) || (high && test k)) ≡ test k
    by high true is_high is_low = twice (test k) high
      where
        twice : (has also : Bool) → (has || (also && has)) ≡ has
        twice true also = refl
        twice false true = refl
        twice false false = refl
    by true false is_high is_low = refl
    by false false is_high is_low = absurd (wrong k is_high is_low)
      where
        wrong : (k : ℕ) → nat_le 56 k ≡ false → nat_lt k 64 ≡ false → ⊥
        wrong k a b = grind (arith, nat_tests, a, b)

-- eight sets are empty where their mask is
pub none-received : (sets : List ℕ) (from k : ℕ) → from + 8 ≤ length sets
    → nat_eq (mask_l (map (top 15) (zip2 (λ a b. cond (not (eqb a b)) (2 ^ 16 - 1) 0) (chunk from 8 sets) (replicate 8 0))) % 2 ^ 64) 0 ≡ true
    → from ≤ k → k < from + 8 → slice_index_or sets k 0 ≡ 0
none-received sets from k within empty low high =
    ap (λ (j : ℕ). slice_index_or sets j 0) place ∙ sym (get_or-chunk from 8 sets (k - from) 0 below) ∙ lane
  where
    long : length (chunk from 8 sets) ≡ 8
    long = length-chunk from 8 sets within

    below : k - from < 8
    below = omega (arith, low, high)

    place : k ≡ from + (k - from)
    place = omega (arith, low)

    zero-is : (n : ℕ) → nat_eq n 0 ≡ true → n ≡ 0
    zero-is n e = grind (arith, nat_tests, e)

    nothing : (set : ℕ) → not (eqb set 0) ≡ false → set ≡ 0
    nothing set e = grind (arith, nat_tests, e)

    mask : mask_l (map (λ set. not (eqb set 0)) (chunk from 8 sets)) ≡ 0
    mask = sym (bitmask_splat w16 (λ a b. not (eqb a b)) (chunk from 8 sets) 8 0 long (omega arith)) ∙ zero-is _ empty

    lane : get_or (chunk from 8 sets) (k - from) 0 ≡ 0
    lane = nothing (get_or (chunk from 8 sets) (k - from) 0)
        (sym (get_or-map (λ set. not (eqb set 0)) (chunk from 8 sets) (k - from) 0 false (omega (arith, below, long)))
        ∙ sym (is_bit-mask (map (λ set. not (eqb set 0)) (chunk from 8 sets)) (k - from))
        ∙ ap (λ (word : ℕ). is_bit word (k - from)) mask ∙ is_bit-zero (k - from))
