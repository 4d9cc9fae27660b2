-- The punches of a card as the word of a row.
use Rattle.std.proofs.Common.{◌≡◌, ◌∙◌, ℕ, ◌+◌, ◌-◌, ◌<◌, ◌≤◌, arith, refl, ap, inl, inr, Bool, true, false, ◌&&◌, List}
use Rattle.std.proofs.Common.{◌⊎◌, nat_le, Option, Some, None}
use Rattle.std.proofs.lemmas.Bool.Decides.{nat_tests}
use Rattle.std.proofs.lemmas.Nat.Bits.{bit_at-zero}
use Rattle.card_code.specs.declared.row.Row.{Row}
use Rattle.hubs.specs.HubTable.Ranges.{is_within}
use Rattle.net.specs.HubSets.{is_bit}
use Rattle.stations.specs.Punches.{is_punched_at, IsRowAt}

-- no bit of 0 is set
pub no_bit : (k : ℕ) → is_bit 0 k ≡ false
unfolding is_bit
no_bit k = rw (bit_at-zero k) refl

-- a word without bits from a place on, in a row from the first number on, has no number before or after the row
pub off_row :
    (first n last bits : ℕ) → ((k : ℕ) → last ≤ k → is_bit bits k ≡ false) → (n < first) ⊎ (first + last ≤ n)
    → (nat_le first n && is_bit bits (n - first)) ≡ false
off_row first n last bits none (inl before) = let off : nat_le first n ≡ false = grind (arith, nat_tests, before) in rw off refl
off_row first n last bits none (inr after) =
    let off : is_bit bits (n - first) ≡ false = none (n - first) (omega arith) in
    rw off (and-false (nat_le first n))
  where
    and-false : (test : Bool) → (test && false) ≡ false
    and-false true = refl
    and-false false = refl

-- a card has no column past 80
pub no_bit_past : (card : Option (List ℕ)) (word : ℕ) (row : Row) → IsRowAt card row word
    → (k : ℕ) → 80 ≤ k → is_bit word k ≡ false
no_bit_past None word row is k past = is k
no_bit_past (Some card) word row is k past =
    let off : is_within (k + 1) 80 ≡ false = grind (arith, nat_tests) in
    is k ∙ (rw off refl)

-- the bit of a column, where it is one
pub column_bit : (card : Option (List ℕ)) (word : ℕ) (row : Row) (column : ℕ) → IsRowAt card row word
    → is_within column 80 ≡ true
    → is_bit word (column - 1) ≡ is_punched_at card row column
column_bit card word row column is within =
    let same : column - 1 + 1 ≡ column = grind (arith, nat_tests, within) in
    is (column - 1) ∙ ap (λ (c : ℕ). is_punched_at card row c) same

-- no column out of range is punched
pub not_punched : (card : Option (List ℕ)) (row : Row) (column : ℕ) → is_within column 80 ≡ false
    → is_punched_at card row column ≡ false
not_punched None row column out = refl
not_punched (Some card) row column out = rw out refl
