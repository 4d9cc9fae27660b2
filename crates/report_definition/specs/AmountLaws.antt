-- Laws of amounts: what is printed can be read again, and where a value is below 0.
use Rattle.std.specs.Prelude.{◌≡◌, ◌↔◌, ℕ, ℤ, ◌+◌, ◌-◌, ◌*◌, ◌^◌, ◌<◌, ◌≤◌, ◌==◌, ◌||◌, Bool, true, false, List, [], ◌∷◌, Option, Some, is_some, if◌then◌else◌, unsigned_abs}
use Rattle.std.specs.Char.{is_ascii_digit}
use Rattle.std.specs.Int.{is_negative}
use Rattle.std.specs.List.{list_any}
use Rattle.card_code.specs.CardCode.{has_row}
use Rattle.chart_lines.specs.declared.charts.statement.Field.{Field}
use Rattle.chart_lines.specs.declared.charts.statement.FieldKind.TheVariants as holds
use Rattle.chart_lines.specs.declared.charts.statement.Mark.{Mark}
use Rattle.chart_lines.specs.declared.charts.statement.SignRule.TheVariants as sign
use Rattle.chart_rules.specs.ValidCard.{column_of}
use Rattle.report_definition.specs.Amounts.{digits_on, number_in, signed, value_of}
use Rattle.report_definition.specs.Edits.{edited}

-- The number that the digits of a text spell after those that spelled a number so far. A blank in front counts 0, and the point and
-- a mark are passed over.
abbrev pub spelled_after : ℕ → List ℕ → ℕ
spelled_after so_far [] = so_far
spelled_after so_far (character ∷ characters) =
    if is_ascii_digit character
    then spelled_after (so_far * 10 + (character - 48)) characters
    else spelled_after so_far characters

-- whether a character is one of a mark: `C`, `R` or `-`
abbrev pub is_of_mark : ℕ → Bool
is_of_mark character = character == 67 || character == 82 || character == 45

-- the amount that a text tells: below 0 where it has a mark
abbrev pub read_amount : List ℕ → ℤ
read_amount text = signed (list_any is_of_mark text) (spelled_after 0 text)

-- An edited amount with room for its digits and for its sign reads back as the number.
abbrev pub EditsReadBack : Type 0
EditsReadBack =
    (number : ℤ) (digits decimals : ℕ) (mark : Option Mark)
    → 1 ≤ digits → decimals ≤ digits → unsigned_abs number < 10 ^ digits → (is_negative number ≡ true → is_some mark ≡ true)
    → read_amount (edited number digits decimals mark) ≡ number

-- The value of an amount by the rule X is below 0 exactly where its sign column has row 11 and its digits are not all zeros.
abbrev pub SignByPunch : Type 0
SignByPunch =
    (field : Field) (card : List ℕ) (decimals column : ℕ) → field.kind ≡ holds.Amount decimals (Some (sign.X column))
    → (is_negative (value_of field card) ≡ true)
    ↔ ((has_row (column_of card column) 11 ≡ true) × (0 < number_in (digits_on field card)))

-- The value of an amount by the rule NX is below 0 exactly where its sign column has no row 11 and its digits are not all zeros.
abbrev pub SignByAbsence : Type 0
SignByAbsence =
    (field : Field) (card : List ℕ) (decimals column : ℕ) → field.kind ≡ holds.Amount decimals (Some (sign.NX column))
    → (is_negative (value_of field card) ≡ true)
    ↔ ((has_row (column_of card column) 11 ≡ false) × (0 < number_in (digits_on field card)))

-- The size of a value is the number of its digits.
abbrev pub SizesAreOfDigits : Type 0
SizesAreOfDigits = (field : Field) (card : List ℕ) → unsigned_abs (value_of field card) ≡ number_in (digits_on field card)
