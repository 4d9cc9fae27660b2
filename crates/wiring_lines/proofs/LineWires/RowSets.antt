-- The rows of a character have places in the order in which rows pass the brushes.
use Rattle.std.proofs.Common.{◌≡◌, ◌∙◌, sym, ℕ, ◌-◌, ◌<◌, ◌≤◌, ◌^◌, ◌==◌, ◌⊎◌, inl, inr, Bool, true, ◌&&◌, ◌||◌, not, nat_lt, refl, ap, arith, Some, if◌then◌else◌}
use Rattle.std.specs.List.{list_all}
use Rattle.std.proofs.lemmas.Bool.{and_parts, cases_lt}
use Rattle.std.proofs.lemmas.Bool.Decides.{nat_tests}
use Rattle.std.proofs.lemmas.List.Sums.{AllPass-from_list_all}
use Rattle.std.proofs.lemmas.Nat.Bits.{bit_at_above}
use Rattle.card_code.proofs.OneToOne.{Contains-rows}
use Rattle.card_code.specs.AllSets.{passes_all, passes-at}
use Rattle.card_code.specs.CardCode.{code, has_row, rows_of}
use Rattle.wiring_lines.specs.LineWires.HelperRows.{number_at}

-- the place of the row with a number
abbrev place_of : ℕ → ℕ
place_of row = if nat_lt row 10 then 9 - row else row - 1

-- whether a row, if a set has it, has a place
has_place : (set row : ℕ) → Bool
has_place set row = not (has_row set row) || nat_lt (place_of row) 12 && (number_at (place_of row) == row)

abbrev have_places : ℕ → Bool
have_places set = nat_lt set (2 ^ 16) && passes_all 4 (has_place set)

all_have_places : list_all (λ pair. have_places pair.1) code ≡ true
unfolding has_place passes_all code
all_have_places = refl

pub row_place : (character set row : ℕ) → rows_of character ≡ Some set → has_row set row ≡ true
    → (place : ℕ) × (place < 12) × (number_at place ≡ row)
unfolding rows_of has_place
row_place character set row coded there =
    let facts = by (has_row set row) (place_of row) (number_at (place_of row)) there (passes-at 4 (has_place set) row parts.1 (low (cases_lt row 16))) in
    (place_of row, facts.0, facts.1)
  where
    parts : (nat_lt set (2 ^ 16) ≡ true) × (passes_all 4 (has_place set) ≡ true)
    parts =
        let at = Contains-rows code character set coded in
        and_parts (nat_lt set (2 ^ 16)) (passes_all 4 (has_place set))
        (ap (λ (pair : ℕ × ℕ). have_places pair.1) (sym at.2)
        ∙ AllPass-from_list_all (λ pair. have_places pair.1) code all_have_places at.0 (character, set) at.1)

    low : (row < 16) ⊎ (16 ≤ row) → row < 16
    low (inl less) = less
    low (inr high) =
        let test = parts.0 in
        let small : set < 2 ^ 16 = grind (arith, nat_tests, test) in
        let none = ap (λ (n : ℕ). n == 1) (bit_at_above set 16 row small high) in
        cc

    by : (has : Bool) (place number : ℕ) → has ≡ true → (not has || nat_lt place 12 && (number == row)) ≡ true → (place < 12) × (number ≡ row)
    by has place number is test = grind (arith, nat_tests, is, test)
