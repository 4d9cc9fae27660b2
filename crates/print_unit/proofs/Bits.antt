-- Bits of words, as tests.
use Rattle.std.proofs.Common.{◌≡◌, ◌∙◌, refl, ap, ℕ, ◌-◌, ◌*◌, ◌%◌, ◌^◌, ◌<◌, ◌≤◌, ◌==◌, ◌&&◌, ◌||◌, not, inl, inr, Bool, true, false, arith, bit_and, bit_or}
use Rattle.std.proofs.lemmas.Bool.Decides.{eqb_tells, nat_tests}
use Rattle.std.proofs.lemmas.Nat.Bits.{bit_at-pow_other, bit_at-pow_same, bit_at-lt, bit_at-zero, bit_at_or, bit_at_and, bit_at_not, bit_at_clear_same, bit_at_clear_other, bit_at_ones, bit_at_above}
use Rattle.std.proofs.lemmas.Nat.{one_shl}
use Rattle.std.specs.Int.{bit_not, w128}
use Rattle.net.specs.HubSets.{is_bit}

-- the word 0 has no bit
pub is_bit-zero : (k : ℕ) → is_bit 0 k ≡ false
unfolding is_bit
is_bit-zero k = rw (bit_at-zero k) refl

-- a word joined with another
pub is_bit-or : (one other k : ℕ) → is_bit (bit_or one other) k ≡ (is_bit one k || is_bit other k)
unfolding is_bit
is_bit-or one other k =
    rw (bit_at_or one other k) (let a = bit_at-lt one k in let b = bit_at-lt other k in grind (arith, nat_tests, a, b))

-- what two words have in common
pub is_bit-and : (one other k : ℕ) → is_bit (bit_and one other) k ≡ (is_bit one k && is_bit other k)
unfolding is_bit
is_bit-and one other k =
    rw (bit_at_and one other k) (let a = bit_at-lt one k in let b = bit_at-lt other k in grind (arith, nat_tests, a, b))

-- the other bits of a word
pub is_bit-not : (word k : ℕ) → word < 2 ^ 128 → k < 128 → is_bit (bit_not w128 word) k ≡ not (is_bit word k)
unfolding is_bit
is_bit-not word k small below =
    rw (bit_at_not w128 word k small below) (let a = bit_at-lt word k in grind (arith, nat_tests, a))

-- a word of so many bits with one bit
pub is_bit-single : (width bit k : ℕ) → bit < width → is_bit (1 * 2 ^ bit % 2 ^ width) k ≡ (k == bit)
unfolding is_bit
is_bit-single width bit k below = rw (one_shl bit width below) (elim (eqb_tells k bit) [
  | inl same ↦ let on = bit_at-pow_same bit in rw (same.1) (grind (arith, nat_tests, on))
  | inr other ↦ let off = bit_at-pow_other bit k other.1 in grind (arith, nat_tests, off, other.1)
])

-- a bit joined to a word
pub is_bit-joined : (width word bit k : ℕ) → bit < width
    → is_bit (bit_or word (1 * 2 ^ bit % 2 ^ width)) k ≡ (is_bit word k || (k == bit))
is_bit-joined width word bit k below =
    is_bit-or word (1 * 2 ^ bit % 2 ^ width) k ∙ ap (λ b. is_bit word k || b) (is_bit-single width bit k below)

-- a word without one of its bits
pub is_bit-cleared : (word bit k : ℕ) → bit < 128 → k < 128
    → is_bit (bit_and word (bit_not w128 (1 * 2 ^ bit % 2 ^ 128))) k ≡ (is_bit word k && not (k == bit))
unfolding is_bit
is_bit-cleared word bit k below wide = elim (eqb_tells k bit) [
  | inl same ↦ rw (same.0, same.1) (let off = bit_at_clear_same w128 word bit below in let small = bit_at-lt word bit in grind (arith, nat_tests, off, small))
  | inr other ↦ rw (other.0, bit_at_clear_other w128 word bit below k wide other.1) (let small = bit_at-lt word k in grind (arith, nat_tests, small))
]

-- what is not out is in
pub not-not : (test : Bool) → not (not test) ≡ test
not-not true = refl
not-not false = refl

-- the lowest bits of a word of ones
pub is_bit-ones : (count k : ℕ) → k < count → is_bit (2 ^ count - 1) k ≡ true
unfolding is_bit
is_bit-ones count k below = rw (bit_at_ones count k below) refl

-- a number has no bit from a width of it on
pub is_bit-above : (n width k : ℕ) → n < 2 ^ width → width ≤ k → is_bit n k ≡ false
unfolding is_bit
is_bit-above n width k small high = rw (bit_at_above n width k small high) refl
