-- Rows of hubs that follow one another.
use Rattle.std.proofs.Common.{◌≡◌, ◌≤◌, ◌<◌, ◌+◌, ◌-◌, ◌^◌, ◌⊎◌, inl, inr, ap, refl, arith, ℕ, false, ◌==◌, Option, Some, None}
use Rattle.std.proofs.lemmas.Bool.Decides.{nat_tests}
use Rattle.std.proofs.lemmas.Nat.Bits.{bit_at_above}
use Rattle.hubs.proofs.HubLemmas.{number_of-kind}
use Rattle.hubs.proofs.HubTable.KindLemmas.{HasNumber-same}
use Rattle.hubs.specs.HubTable.HubTable.{row_of, HasNumber}
use Rattle.hubs.specs.Hubs.{letters_of, number_of}
use Rattle.hubs.specs.HubTable.Places.{count_of}
use Rattle.hubs.specs.declared.hub.Hub.{Hub}
use Rattle.hubs.specs.declared.hub_table.letters.Letters.{Letters}
use Rattle.net.specs.HubSets.{is_bit, is_bit_from}

-- one of two numbers is at most the other
pub le_or_lt : (a b : ℕ) → (a ≤ b) ⊎ (b < a)
le_or_lt a b = grind arith

-- a word has no bit from its width on
pub no_bit_from : (bits width k : ℕ) → bits < 2 ^ width → width ≤ k → is_bit bits k ≡ false
unfolding is_bit
no_bit_from bits width k small far = ap (λ b. b == 1) (bit_at_above bits width k small far)

-- a row has no hub before its first one, and none from its width on
pub before_row : (first bits n : ℕ) → n < first → is_bit_from (Some first) bits (Some n) ≡ false
before_row first bits n before = grind (arith, nat_tests)

pub after_row : (first width bits n : ℕ) → bits < 2 ^ width → first + width ≤ n → is_bit_from (Some first) bits (Some n) ≡ false
after_row first width bits n small after =
    let off = no_bit_from bits width (n - first) small (omega arith) in grind (arith, nat_tests, off)

-- a row that ends with its kind has no hub of other letters
pub in_no_row : (letters : Letters) (first width bits : ℕ) (hub : Hub) → (letters_of hub ≡ letters → ⊥)
    → (row_of letters).before < first → first + width ≤ (row_of letters).before + count_of (row_of letters).shape + 1
    → bits < 2 ^ width → is_bit_from (Some first) bits (number_of hub) ≡ false
in_no_row letters first width bits hub other from to small = by_number (number_of hub) refl
  where
    by_number : (found : Option ℕ) → number_of hub ≡ found → is_bit_from (Some first) bits found ≡ false
    by_number None is = refl
    by_number (Some n) is = elim (le_or_lt first n) [
      | inr before ↦ before_row first bits n before
      | inl after ↦ elim (le_or_lt (first + width) n) [
        | inl past ↦ after_row first width bits n small past
        | inr inside ↦ let has : HasNumber letters n = (omega (arith, from, after), omega (arith, to, inside)) in
            absurd (other (HasNumber-same (letters_of hub) letters n (number_of-kind hub n is) has))
      ]
    ]
