-- The value of an amount on a card: the whole number of its digits, a blank column counting 0, and negated where its sign rule
-- says so: X where the sign column has row 11, NX where it has none.
use Rattle.std.specs.Prelude.{ℕ, ◌+◌, ◌*◌, ◌^◌, Bool, false, not, List, [], ◌∷◌, Option, Some, None, length, map, is_some, find, if◌then◌else◌}
use Rattle.std.specs.Prelude.{ℤ, pos, neg_ℤ}
use Rattle.std.specs.List.{list_any, range_with_len}
use Rattle.card_code.specs.CardCode.{has_row}
use Rattle.chart_lines.specs.ChartsWords.Field.{columns_of}
use Rattle.chart_lines.specs.declared.charts.statement.Field.{Field}
use Rattle.chart_lines.specs.declared.charts.statement.FieldKind.{FieldKind}
use Rattle.chart_lines.specs.declared.charts.statement.FieldKind.TheVariants as holds
use Rattle.chart_lines.specs.declared.charts.statement.SignRule.{SignRule}
use Rattle.chart_lines.specs.declared.charts.statement.SignRule.TheVariants as sign
use Rattle.chart_rules.specs.ValidCard.{column_of}

-- the numbers of the columns of a field, from the left
abbrev pub columns_in : Field → List ℕ
columns_in field = range_with_len field.first (columns_of field)

-- the digit of a column, if it has one
abbrev pub digit_in : ℕ → Option ℕ
digit_in rows = find (λ digit. has_row rows digit) (range_with_len 0 10)

-- the digits of an amount's columns on a card, from the left, with none where a column is blank
abbrev pub digits_on : Field → List ℕ → List (Option ℕ)
digits_on field card = map (λ column. digit_in (column_of card column)) (columns_in field)

-- an amount is blank where no column of it has a digit
abbrev pub is_blank_on : Field → List ℕ → Bool
is_blank_on field card = not (list_any is_some (digits_on field card))

-- the number that columns spell from the left, a blank one counting 0
abbrev pub number_in : List (Option ℕ) → ℕ
number_in [] = 0
number_in (Some digit ∷ others) = digit * 10 ^ length others + number_in others
number_in (None ∷ others) = number_in others

-- whether a sign rule makes an amount negative on a card
abbrev pub is_negative_by : SignRule → List ℕ → Bool
is_negative_by (sign.X column) card = has_row (column_of card column) 11
is_negative_by (sign.NX column) card = not (has_row (column_of card column) 11)

-- whether the digits of a field are negated on a card; without a sign rule they never are
abbrev pub is_negated : FieldKind → List ℕ → Bool
is_negated (holds.Amount decimals (Some rule)) card = is_negative_by rule card
is_negated other card = false

-- a whole number with a sign
abbrev pub signed : Bool → ℕ → ℤ
signed negated number = if negated then neg_ℤ (pos number) else pos number

-- the value of an amount on a card
abbrev pub value_of : Field → List ℕ → ℤ
value_of field card = signed (is_negated field.kind card) (number_in (digits_on field card))
