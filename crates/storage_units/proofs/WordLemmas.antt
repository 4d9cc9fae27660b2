-- The words of tests.
use Rattle.std.proofs.Common.{◌≡◌, ◌<◌, ◌≤◌, ◌+◌, ◌-◌, ◌*◌, ◌^◌, ◌∙◌, inl, inr, ap, refl, arith, ℕ, zero, suc, Bool, true, false, ◌==◌, ◌&&◌}
use Rattle.std.specs.Prelude.{if◌then◌else◌}
use Rattle.std.specs.Int.{bit_at}
use Rattle.std.proofs.lemmas.Bool.{cases_lt}
use Rattle.std.proofs.lemmas.Bool.Decides.{nat_tests}
use Rattle.std.proofs.Math.Nat.{pow-succ'}
use Rattle.std.proofs.lemmas.Nat.Bits.{bit_at_cat_low, bit_at_cat_high}
use Rattle.hubs.specs.HubTable.Ranges.{is_within}
use Rattle.net.specs.HubSets.{is_bit}
use Rattle.storage_units.specs.Words.{has_column, word_of}

-- one bit as a number
abbrev bit_of : Bool → ℕ
bit_of test = if test then 1 else 0

-- a word of so many tests has no more bits
pub word_of-below : (test : ℕ → Bool) (n : ℕ) → word_of test n < 2 ^ n
unfolding word_of
word_of-below test zero = omega arith
word_of-below test (suc last) = one_more (test (suc last)) (word_of-below test last)
  where
    one_more : (on : Bool) → word_of test last < 2 ^ last → (if on then 1 else 0) * 2 ^ last + word_of test last < 2 ^ suc last
    one_more true below = rw (pow-succ' 2 last) (omega (arith, below))
    one_more false below = rw (pow-succ' 2 last) (omega (arith, below))

-- the bits of a word are its tests
pub word_of-bit : (test : ℕ → Bool) (n i : ℕ) → i < n → is_bit (word_of test n) i ≡ test (i + 1)
unfolding word_of is_bit
word_of-bit test zero i below = elim below [ ]
word_of-bit test (suc last) i below = elim (cases_lt i last) [
  | inl low ↦ ap (λ b. b == 1) (bit_at_cat_low (bit_of (test (suc last))) last (word_of test last) i low) ∙ word_of-bit test last i low
  | inr high ↦ let is : i ≡ last = omega arith in let place : i - last ≡ 0 = omega arith in
      ap (λ b. b == 1) (bit_at_cat_high (bit_of (test (suc last))) last (word_of test last) i (word_of-below test last) high
      ∙ ap (bit_at (bit_of (test (suc last)))) place)
      ∙ lowest (test (suc last)) ∙ ap test (omega (arith, is))
]
  where
    lowest : (on : Bool) → (bit_at (if on then 1 else 0) 0 == 1) ≡ on
    lowest true = refl
    lowest false = refl

-- words of tests that agree on the columns
pub word_of-same : (one other : ℕ → Bool) (count : ℕ) → ((n : ℕ) → 1 ≤ n → n ≤ count → one n ≡ other n) → word_of one count ≡ word_of other count
unfolding word_of
word_of-same one other zero same = refl
word_of-same one other (suc last) same =
    ap (λ b. (if b then 1 else 0) * 2 ^ last + word_of one last) (same (suc last) (omega arith) (omega arith))
    ∙ ap (λ (w : ℕ). (if other (suc last) then 1 else 0) * 2 ^ last + w)
    (word_of-same one other last (λ n from to. same n from (omega (arith, to))))

-- a column is in the word of a test where the test is true
pub word_of-column : (test : ℕ → Bool) (column : ℕ) → has_column (word_of test 16) column ≡ (is_within column 16 && test column)
word_of-column test column = by (is_within column 16) refl
  where
    by : (within : Bool) → is_within column 16 ≡ within
        → (within && is_bit (word_of test 16) (column - 1)) ≡ (within && test column)
    by true is =
        let below : column - 1 < 16 = grind (arith, nat_tests, is) in
        let place : column - 1 + 1 ≡ column = grind (arith, nat_tests, is) in
        word_of-bit test 16 (column - 1) below ∙ ap test place
    by false is = refl
