-- Bits of a word that is joined, shifted, cut or turned round.
use Rattle.std.proofs.Common.{⊎_elim, add-zero, ◌≡◌, ◌≢◌, ℕ, ◌+◌, ◌-◌, ◌*◌, ◌/◌, ◌%◌, ◌^◌, ◌<◌, ◌≤◌, ◌∙◌, sym, ap, refl, arith, Bool, true, false, not, ◌&&◌, ◌||◌, min, max, nat_eq}
use Rattle.std.specs.Prelude.{nat_le, nat_lt, ◌==◌}
use Rattle.std.specs.Int.Bits.{bit_and, bit_or}
use Rattle.std.specs.Int.{bit_at, bit_not, trailing_zeros, Width, w64, w128}
use Rattle.std.proofs.lemmas.Bool.Decides.{nat_tests}
use Rattle.std.proofs.lemmas.Nat.{and_le_l, and_mask, shr_split, shr-shr, pow_pos, one_shl}
use Rattle.std.proofs.lemmas.Bool.{cases_eq, cases_lt, false≢true, and_parts}
use Rattle.std.proofs.Math.Bool.{and-false}
use Rattle.std.proofs.Math.Nat.{zero-mul}
use Rattle.std.proofs.lemmas.Nat.Bits.{bit_at_or, bit_at_and, bit_at-lt, bit_at_cat_low, bit_at_cat_high, bit_at-pow_same, bit_at-pow_other, bit_at-zero, bit_at_above, bit_at_not, bit_at_ones, bit_at_ones_above, bit_at_clear_same, bit_at_clear_other, bit_at-trailing_zeros, shr_and_one}
use mir.Val.{bits, bool_byte}
use Rattle.machine_sets.specs.BitSets.Bits.{is_bit, is_in_run}

-- the test of a bit as code makes it
pub test_bit : (word bit : ℕ) → nat_eq (bit_and (word / 2 ^ bit) 1) 1 ≡ is_bit word bit
unfolding is_bit
test_bit word bit = ap (λ n. nat_eq n 1) (shr_and_one word bit)

pub is_bit-or : (a b j : ℕ) → is_bit (bit_or a b) j ≡ (is_bit a j || is_bit b j)
unfolding is_bit
is_bit-or a b j = at (bit_at a j) (bit_at b j) (bit_at (bit_or a b) j) (bit_at-lt a j) (bit_at-lt b j) (bit_at_or a b j) where
  at : (x y z : ℕ) → x < 2 → y < 2 → z ≡ max x y → (z == 1) ≡ ((x == 1) || (y == 1))
  at x y z p q e = grind (arith, nat_tests)

pub is_bit-and : (a b j : ℕ) → is_bit (bit_and a b) j ≡ (is_bit a j && is_bit b j)
unfolding is_bit
is_bit-and a b j = at (bit_at a j) (bit_at b j) (bit_at (bit_and a b) j) (bit_at-lt a j) (bit_at-lt b j) (bit_at_and a b j) where
  at : (x y z : ℕ) → x < 2 → y < 2 → z ≡ min x y → (z == 1) ≡ ((x == 1) && (y == 1))
  at x y z p q e = grind (arith, nat_tests)

pub is_bit-zero : (j : ℕ) → is_bit 0 j ≡ false
unfolding is_bit
is_bit-zero j = ap (λ n. n == 1) (bit_at-zero j)

pub is_bit-pow : (k j : ℕ) → is_bit (2 ^ k) j ≡ (j == k)
unfolding is_bit
is_bit-pow k j = ⊎_elim
    (λ (same : j ≡ k). let e = bit_at-pow_same k in rw same (at (bit_at (2 ^ k) k) 1 k k e (λ _. refl) (λ _. refl)))
    (λ (not_same : j ≢ k). let e = bit_at-pow_other k j not_same in at (bit_at (2 ^ k) j) 0 j k e (λ f. absurd (not_same f)) (λ f. absurd (omega arith)))
    (cases_eq j k) where
      at : (x y : ℕ) (j k : ℕ) → x ≡ y → (j ≡ k → y ≡ 1) → (y ≡ 1 → j ≡ k) → (x == 1) ≡ (j == k)
      at x y j k e f g = grind (arith, nat_tests)

pub is_bit-above : (n k j : ℕ) → n < 2 ^ k → k ≤ j → is_bit n j ≡ false
unfolding is_bit
is_bit-above n k j small high = ap (λ m. m == 1) (bit_at_above n k j small high)

pub is_bit-shr : (n d j : ℕ) → is_bit (n / 2 ^ d) j ≡ is_bit n (d + j)
unfolding is_bit
is_bit-shr n d j = ap (λ m. m % 2 == 1) (shr-shr n d j)

pub is_bit-low : (n w j : ℕ) → j < w → is_bit (n % 2 ^ w) j ≡ is_bit n j
unfolding is_bit
is_bit-low n w j low =
    let cut = bit_at_cat_low (n / 2 ^ w) w (n % 2 ^ w) j low in
    let whole = shr_split n w in
    ap (λ m. m == 1) (sym cut ∙ ap (λ m. bit_at m j) whole)

pub is_bit-shl : (n u j : ℕ) → is_bit (n * 2 ^ u) j ≡ (nat_le u j && is_bit n (j - u))
unfolding is_bit
is_bit-shl n u j = ⊎_elim
    (λ (low : j < u). below (bit_at (n * 2 ^ u) j) (bit_at n (j - u)) j u low
    (ap (λ m. bit_at m j) (sym (add-zero (n * 2 ^ u))) ∙ bit_at_cat_low n u 0 j low ∙ bit_at-zero j))
    (λ high. from (bit_at (n * 2 ^ u) j) (bit_at n (j - u)) j u (omega arith)
    (ap (λ m. bit_at m j) (sym (add-zero (n * 2 ^ u))) ∙ bit_at_cat_high n u 0 j (pow_pos u) (omega arith)))
    (cases_lt j u) where
      below : (x y j u : ℕ) → j < u → x ≡ 0 → (x == 1) ≡ (nat_le u j && (y == 1))
      below x y j u low e = grind (arith, nat_tests)

      from : (x y j u : ℕ) → u ≤ j → x ≡ y → (x == 1) ≡ (nat_le u j && (y == 1))
      from x y j u high e = grind (arith, nat_tests)

-- a row of bits, from its first place on, seen from another place on

pub run_down : (n from to j : ℕ) → from ≤ to → is_bit (n / 2 ^ (to - from)) j ≡ is_in_run from n (to + j)
run_down n from to j le =
    let there : nat_le from (to + j) ≡ true = grind (arith, nat_tests) in
    let index : to - from + j ≡ to + j - from = omega arith in
    is_bit-shr n (to - from) j ∙ ap (is_bit n) index ∙ ap (λ b. b && is_bit n (to + j - from)) (sym there)

pub run_up : (n from to w j : ℕ) → to < from → j < w → is_bit (n * 2 ^ (from - to) % 2 ^ w) j ≡ is_in_run from n (to + j)
run_up n from to w j lt below =
    let there : nat_le (from - to) j ≡ nat_le from (to + j) = grind (arith, nat_tests) in
    let index : j - (from - to) ≡ to + j - from = omega arith in
    is_bit-low (n * 2 ^ (from - to)) w j below ∙ is_bit-shl n (from - to) j
    ∙ ap (λ b. b && is_bit n (j - (from - to))) there ∙ ap (λ i. nat_le from (to + j) && is_bit n i) index

pub run_past : (n from to w j : ℕ) → n < 2 ^ w → from + w ≤ to → is_bit 0 j ≡ is_in_run from n (to + j)
run_past n from to w j small past =
    let none : is_bit n (to + j - from) ≡ false = is_bit-above n w (to + j - from) small (omega arith) in
    is_bit-zero j ∙ sym (and-false _) ∙ ap (λ b. nat_le from (to + j) && b) (sym none)

pub run_before : (n from to w j : ℕ) → to + w ≤ from → j < w → is_bit 0 j ≡ is_in_run from n (to + j)
run_before n from to w j before below =
    let none : nat_le from (to + j) ≡ false = grind (arith, nat_tests) in
    is_bit-zero j ∙ ap (λ b. b && is_bit n (to + j - from)) (sym none)

-- a place where a test is true
pub is_bit-where : (test : Bool) (k j : ℕ) → k < 64 → is_bit (bool_byte test * 2 ^ k % 2 ^ 64) j ≡ (test && (j == k))
is_bit-where true k j low = ap (λ n. is_bit n j) (one_shl k 64 low) ∙ is_bit-pow k j
is_bit-where false k j low = ap (λ n. is_bit (n % 2 ^ 64) j) (zero-mul (2 ^ k)) ∙ is_bit-zero j

-- the low 64 bits, as code takes them
pub is_bit-low_word : (n j : ℕ) → j < 64 → is_bit (bit_and n 0xffff_ffff_ffff_ffff) j ≡ is_bit n j
is_bit-low_word n j low = ap (λ m. is_bit m j) (and_mask n 64) ∙ is_bit-low n 64 j low

-- the first so many bits
pub is_bit-ones : (k j : ℕ) → is_bit (2 ^ k - 1) j ≡ nat_lt j k
unfolding is_bit
is_bit-ones k j =
    ⊎_elim
    (λ (low : j < k). let e = bit_at_ones k j low in at_one (bit_at (2 ^ k - 1) j) j k low e)
    (λ high. let e = bit_at_ones_above k j (omega arith) in at_none (bit_at (2 ^ k - 1) j) j k (omega arith) e)
    (cases_lt j k) where
      at_one : (x j k : ℕ) → j < k → x ≡ 1 → (x == 1) ≡ nat_lt j k
      at_one x j k low e = grind (arith, nat_tests)

      at_none : (x j k : ℕ) → k ≤ j → x ≡ 0 → (x == 1) ≡ nat_lt j k
      at_none x j k high e = grind (arith, nat_tests)

-- a word turned round
pub is_bit-not : (w : Width) (n j : ℕ) → n < 2 ^ bits w → j < bits w → is_bit (bit_not w n) j ≡ not (is_bit n j)
unfolding is_bit
is_bit-not w n j small low = at (bit_at (bit_not w n) j) (bit_at n j) (bit_at-lt n j) (bit_at_not w n j small low) where
  at : (x y : ℕ) → y < 2 → x ≡ 1 - y → (x == 1) ≡ not (y == 1)
  at x y small e = grind (arith, nat_tests)

-- the lowest bit of a word that has any
pub lowest_bit : (n : ℕ) → 0 < n → n < 2 ^ 64 → (trailing_zeros w64 n < 64) × (is_bit n (trailing_zeros w64 n) ≡ true)
unfolding is_bit
lowest_bit n some small =
    let lowest = bit_at-trailing_zeros w64 n some small in
    (lowest.0, ap (λ b. b == 1) lowest.1)

-- a row of 128 bits that has any
pub first_set : (n : ℕ) → 0 < n → n < 2 ^ 128 → (j : ℕ) × (is_bit n j ≡ true)
unfolding is_bit
first_set n some small =
    let lowest = bit_at-trailing_zeros w128 n some small in
    (trailing_zeros w128 n, ap (λ b. b == 1) lowest.1)

-- a bit taken out, and the others kept
pub is_bit-taken : (n k j : ℕ) → k < 64 → j < 64
    → is_bit (bit_and n (bit_not w64 (1 * 2 ^ k % 2 ^ 64))) j ≡ (is_bit n j && not (j == k))
unfolding is_bit
is_bit-taken n k j within low =
    ⊎_elim
    (λ (same : j ≡ k). let e = bit_at_clear_same w64 n k within in rw same (at_same (bit_at (bit_and n (bit_not w64 (1 * 2 ^ k % 2 ^ 64))) k) (bit_at n k) k e))
    (λ (other : j ≢ k). let e = bit_at_clear_other w64 n k within j low other in at_other _ _ j k other e)
    (cases_eq j k) where
      at_same : (x y k : ℕ) → x ≡ 0 → (x == 1) ≡ ((y == 1) && not (k == k))
      at_same x y k e = grind (arith, nat_tests)

      at_other : (x y j k : ℕ) → j ≢ k → x ≡ y → (x == 1) ≡ ((y == 1) && not (j == k))
      at_other x y j k other e = grind (arith, nat_tests)

-- a word with a bit is not zero, and one without any is
pub none_set : (n : ℕ) → n ≡ 0 → (j : ℕ) → is_bit n j ≡ false
none_set n e j = ap (λ m. is_bit m j) e ∙ is_bit-zero j

-- what is cut has no bit that was not there
pub is_bit-kept : (a b j : ℕ) → is_bit (bit_and a b) j ≡ true → is_bit a j ≡ true
is_bit-kept a b j at = (and_parts (is_bit a j) (is_bit b j) (sym (is_bit-and a b j) ∙ at)).0

-- a word is less without its lowest bit
pub taken_lower : (n : ℕ) → 0 < n → n < 2 ^ 64
    → bit_and n (bit_not w64 (1 * 2 ^ trailing_zeros w64 n % 2 ^ 64)) < n
taken_lower n some small =
    let lowest = lowest_bit n some small in
    let gone : is_bit (bit_and n (bit_not w64 (1 * 2 ^ trailing_zeros w64 n % 2 ^ 64))) (trailing_zeros w64 n) ≡ false =
    is_bit-taken n (trailing_zeros w64 n) (trailing_zeros w64 n) lowest.0 lowest.0 ∙ none _ (trailing_zeros w64 n) in
    let le = and_le_l n (bit_not w64 (1 * 2 ^ trailing_zeros w64 n % 2 ^ 64)) in
    less _ n le (λ same. false≢true (sym gone ∙ ap (λ m. is_bit m (trailing_zeros w64 n)) same ∙ lowest.1)) where
      none : (b : Bool) (k : ℕ) → (b && not (k == k)) ≡ false
      none b k = grind (arith, nat_tests)

      less : (m n : ℕ) → m ≤ n → m ≢ n → m < n
      less m n le other = omega arith
