-- Amounts on cards and on total lines spell what the report edits.
use Rattle.std.proofs.Common.{◌≡◌, ◌∙◌, refl, sym, ap, ap₂, ℕ, zero, suc, ℤ, pos, negsuc, ◌/◌, ◌^◌, ◌<◌, ◌==◌, ◌&&◌, not, if◌then◌else◌, Bool, true, false, List, [], ◌∷◌, length, map, drop, Option, Some, None, arith, unsigned_abs}
use Rattle.std.specs.Int.{is_negative}
use Rattle.std.proofs.Math.Nat.{mod-lt}
use Rattle.std.proofs.lemmas.Bool.Decides.{nat_tests}
use Rattle.wiring_table.specs.Below.chart_lines.ChartsWords.Field.{columns_of, decimals_of}
use Rattle.wiring_table.specs.Below.chart_lines.declared.charts.statement.Field.{Field}
use Rattle.wiring_table.specs.Below.chart_lines.declared.charts.statement.Mark.{Mark}
use Rattle.wiring_table.specs.Below.chart_rules.ValidCard.{IsValidAmount}
use Rattle.report_definition.specs.Amounts.{number_in, digits_on, is_blank_on, is_negated, signed, value_of}
use Rattle.report_definition.specs.BodyLines.{amount_on}
use Rattle.report_definition.specs.Edits.{last_digits, free_digits, marked, edited, edited_blank, edited_digits}
use Rattle.print_unit.specs.ZeroControl.{printed_from}
use Rattle.proof_reports.specs.PrintedLines.Held.{HoldsTotal}
use Rattle.proof_reports.specs.PrintedLines.Shown.{Amount, Printed}
use Rattle.report_definition.proofs.ReadBack.{not-negative, signed-size}
use Rattle.proof_reports.proofs.PrintedLines.AmountText.{amount_wheels, amount-edited, amount-blank}
use Rattle.proof_reports.proofs.PrintedLines.CardDigits.{OnCard, blank, numeral, OnCard-valid, digits-length}
use Rattle.proof_reports.proofs.PrintedLines.ItemText.{Spells}
use Rattle.wiring_table.proofs.Below.chart_rules.Laws.{IsGoodField}
use Rattle.proof_reports.proofs.PrintedLines.Numbers.{value, any_above_zero, AreDigits, AreSmall-numeral, IsNumeral-digits, number_in-small, last_digits-columns, any_above_zero-number}

below-signed : (negated : Bool) (number : ℕ) → is_negative (signed negated number) ≡ (not (number == 0) && negated)
below-signed false zero = refl
below-signed false (suc number) = not-negative (suc number) ∙ grind (arith, nat_tests)
below-signed true zero = refl
below-signed true (suc number) = grind (arith, nat_tests)

-- an amount on a valid card spells its edited value, or its point where it is blank
pub card-amount : (field : Field) (card : List ℕ) (wheel : ℕ) (mark : Option Mark) → IsGoodField field → IsValidAmount field card
    → Spells
    (Amount wheel (record { digits = columns_of field; decimals = decimals_of field.kind; mark = mark }) (digits_on field card)
    (is_negated field.kind card))
    (amount_on card mark field)
card-amount field card wheel mark good valid = by (OnCard-valid field card good valid)
  where
    digits : List (Option ℕ)
    digits = digits_on field card

    decimals : ℕ
    decimals = decimals_of field.kind

    negated : Bool
    negated = is_negated field.kind card

    number : ℕ
    number = number_in digits

    wheels : ℕ → List ℕ
    wheels count = printed_from true false (amount_wheels (free_digits count decimals) decimals mark digits negated)

    choose : (b : Bool) → is_blank_on field card ≡ b
        → amount_on card mark field
        ≡ (if b then edited_blank (columns_of field) decimals mark else edited (value_of field card) (columns_of field) decimals mark)
    choose b is =
        ap
        (λ t. if t then edited_blank (columns_of field) decimals mark
        else edited (value_of field card) (columns_of field) decimals mark) is

    by : OnCard field card → wheels (columns_of field) ≡ amount_on card mark field
    by (blank are is) =
        ap wheels (sym (digits-length field card))
        ∙ amount-blank digits decimals mark negated are
        ∙ ap (λ n. edited_blank n decimals mark) (digits-length field card)
        ∙ sym (choose true is)
    by (numeral is low there) =
        ap wheels (sym (digits-length field card))
        ∙ amount-edited digits decimals mark negated (is_negative (value_of field card)) is low (ap (marked mark) sign)
        ∙ ap (λ ds. edited_digits ds decimals mark (is_negative (value_of field card))) spelled
        ∙ sym (choose false there)
      where
        own : map value digits ≡ last_digits (length digits) number
        own = sym (last_digits-columns digits (AreSmall-numeral digits is))

        spelled : map value digits ≡ last_digits (columns_of field) (unsigned_abs (value_of field card))
        spelled = own ∙ ap₂ last_digits (digits-length field card) (sym (signed-size negated number))

        sign : (any_above_zero (map value digits) && negated) ≡ is_negative (value_of field card)
        sign =
            ap (λ b. b && negated)
            (ap any_above_zero own
            ∙ any_above_zero-number (length digits) number (number_in-small digits (AreSmall-numeral digits is)))
            ∙ sym (below-signed negated number)

-- the last digits of a number are digits, as many as they are
all-digits : (count number : ℕ) → AreDigits (map Some (last_digits count number))
all-digits zero number = tt
all-digits (suc count) number = (mod-lt (number / 10 ^ count) (omega arith), all-digits count number)

pub last_digits-length : (count number : ℕ) → length (map Some (last_digits count number)) ≡ count
last_digits-length zero number = refl
last_digits-length (suc count) number = ap suc (last_digits-length count number)

value-some : (digits : List ℕ) → map value (map Some digits) ≡ digits
value-some [] = refl
value-some (digit ∷ digits) = ap (λ ds. digit ∷ ds) (value-some digits)

AreDigits-drop : (count : ℕ) (columns : List (Option ℕ)) → AreDigits columns → AreDigits (drop count columns)
AreDigits-drop zero columns are = are
AreDigits-drop (suc count) [] are = tt
AreDigits-drop (suc count) (None ∷ columns) are = absurd are
AreDigits-drop (suc count) (Some digit ∷ columns) are = AreDigits-drop count columns are.1

-- the mark prints exactly where the total is below 0
total-sign : (digits : ℕ) (mark : Option Mark) (total : ℤ) (held : Printed) → HoldsTotal digits mark total held
    → marked mark (not (held.figure == 0) && held.latch) ≡ marked mark (is_negative total)
total-sign digits None total held holds = refl
total-sign digits (Some mark) total held holds =
    ap (λ n. marked (Some mark) (not (n == 0) && held.latch)) holds.figure
    ∙ ap (marked (Some mark)) (by total (holds.below refl) (holds.above refl))
  where
    by : (total : ℤ) → (is_negative total ≡ true → held.latch ≡ true)
        → (is_negative total ≡ false → 0 < unsigned_abs total → held.latch ≡ false)
        → (not (unsigned_abs total == 0) && held.latch) ≡ is_negative total
    by (pos zero) below above = refl
    by (pos (suc number)) below above =
        let plain = not-negative (suc number) in
        let latch = above plain (omega arith) in
        let some : not (suc number == 0) ≡ true = grind (arith, nat_tests) in
        ap₂ (λ a b. a && b) some latch ∙ sym plain
    by (negsuc number) below above =
        let latch = below refl in
        let some : not (suc number == 0) ≡ true = grind (arith, nat_tests) in
        ap₂ (λ a b. a && b) some latch

-- what is held of a total spells its edited number
pub total-amount : (wheel digits decimals : ℕ) (mark : Option Mark) (total : ℤ) (held : Printed) → HoldsTotal digits mark total held
    → Spells
    (Amount wheel (record { digits = digits; decimals = decimals; mark = mark }) (map Some (last_digits digits held.figure)) held.latch)
    (edited total digits decimals mark)
total-amount wheel digits decimals mark total held holds =
    ap wheels (sym (last_digits-length digits held.figure))
    ∙ amount-edited columns decimals mark held.latch (is_negative total) (IsNumeral-digits columns are)
    (AreDigits-drop (free_digits (length columns) decimals) columns are)
    (ap (λ b. marked mark (b && held.latch))
    (ap any_above_zero (value-some (last_digits digits held.figure)) ∙ any_above_zero-number digits held.figure small)
    ∙ total-sign digits mark total held holds)
    ∙ ap (λ ds. edited_digits ds decimals mark (is_negative total))
    (value-some (last_digits digits held.figure) ∙ ap (last_digits digits) holds.figure)
  where
    columns : List (Option ℕ)
    columns = map Some (last_digits digits held.figure)

    are : AreDigits columns
    are = all-digits digits held.figure

    wheels : ℕ → List ℕ
    wheels count = printed_from true false (amount_wheels (free_digits count decimals) decimals mark columns held.latch)

    small : held.figure < 10 ^ digits
    small = let fits = holds.fits in let is = holds.figure in omega (arith, fits, is)
