-- Which column of a card is at fault in a field that isn't valid on it, and why. Columns are counted from 1.
use Rattle.std.specs.Prelude.{ℕ, ◌+◌, ◌-◌, ◌==◌, ◌&&◌, ◌||◌, not, Bool, false, List, [], ◌∷◌, ◌++◌, length, max, nat_le, nat_lt, Option, Some, None, replicate, take, unwrap_or, if◌then◌else◌}
use Rattle.cli_sheets.specs.declared.bad_columns.column.BadColumn.{BadColumn}
use Rattle.cli_sheets.specs.declared.bad_columns.column.ColumnSlip.{ColumnSlip}
use Rattle.cli_sheets.specs.declared.bad_columns.column.ColumnSlip.TheVariants as slip
use Rattle.card_code.specs.CardCode.{deck_character, has_row, rows_of}
use Rattle.chart_lines.specs.ChartsWords.Field.{decimals_of, sign_column}
use Rattle.chart_lines.specs.declared.charts.statement.Field.{Field}
use Rattle.chart_lines.specs.declared.charts.statement.FieldKind.{FieldKind}
use Rattle.chart_lines.specs.declared.charts.statement.FieldKind.TheVariants as holds
use Rattle.chart_rules.specs.ValidCard.{digit_count, is_printed, is_sign}

-- the rows of a byte: none, if it is no character of a card
abbrev pub rows_at : ℕ → ℕ
rows_at byte = unwrap_or (rows_of byte) 0

-- the 80 bytes of a line, filled with blanks
abbrev pub padded : List ℕ → List ℕ
padded line = take 80 line ++ replicate (80 - length (take 80 line)) 32

-- what is wrong with a column of a text
abbrev pub text_slip : (rows : ℕ) → Option ColumnSlip
text_slip rows = if is_printed (deck_character rows) then None else Some slip.Unprinted

-- what is wrong with a column of an amount: whether a digit has to stand there
abbrev pub amount_slip : (sign : Option ℕ) → (is_due : Bool) → (column rows : ℕ) → Option ColumnSlip
amount_slip sign is_due column rows =
    if nat_lt 1 (digit_count rows) then Some slip.Several
    else if has_row rows 12 then Some slip.Twelve
    else if has_row rows 11 && not (is_sign sign column) then Some slip.Eleven
    else if is_due && (digit_count rows == 0) then Some slip.Missing
    else None

-- Whether a digit has to stand in a column of an amount: behind another digit, and, if the amount has a digit, in so many of its last columns.
abbrev pub is_due : Field → (has_some is_begun : Bool) → (column : ℕ) → Bool
is_due field has_some is_begun column = is_begun || (has_some && nat_lt field.last (column + max (decimals_of field.kind) 1))

-- what is wrong with a column of a field that has a digit or none, behind its first digit or not
abbrev pub kind_slip : FieldKind → Field → (has_some is_begun : Bool) → (column rows : ℕ) → Option ColumnSlip
kind_slip holds.Text field has_some is_begun column rows = text_slip rows
kind_slip (holds.Amount decimals rule) field has_some is_begun column rows =
    amount_slip (sign_column field.kind) (is_due field has_some is_begun column) column rows

-- whether a field has a column
abbrev pub has_column : Field → (column : ℕ) → Bool
has_column field column = nat_le field.first column && nat_le column field.last

abbrev pub slip_at : Field → (has_some is_begun : Bool) → (column rows : ℕ) → Option ColumnSlip
slip_at field has_some is_begun column rows = if has_column field column then kind_slip field.kind field has_some is_begun column rows else None

-- whether a digit stands in a column of a field
abbrev pub has_digit : Field → (column rows : ℕ) → Bool
has_digit field column rows = has_column field column && nat_lt 0 (digit_count rows)

-- whether one stands in a column of a field, among those of some bytes, of which the first stands in a column
unfoldable pub has_digits : Field → (column : ℕ) → List ℕ → Bool
has_digits field column [] = false
has_digits field column (byte ∷ bytes) = has_digit field column (rows_at byte) || has_digits field (column + 1) bytes

-- a column at fault, or what comes of the columns behind it
abbrev pub bad_or : Field → (column : ℕ) → Option ColumnSlip → Option BadColumn → Option BadColumn
bad_or field column None later = later
bad_or field column (Some why) later = Some (record { name = field.name; column = column; slip = why })

-- the first column at fault of a field, among those of some bytes, of which the first stands in a column
unfoldable pub bad_from : Field → (has_some is_begun : Bool) → (column : ℕ) → List ℕ → Option BadColumn
bad_from field has_some is_begun column [] = None
bad_from field has_some is_begun column (byte ∷ bytes) =
    bad_or field column (slip_at field has_some is_begun column (rows_at byte))
    (bad_from field has_some (is_begun || has_digit field column (rows_at byte)) (column + 1) bytes)

-- the first column at fault of a field on a card of 80 bytes
abbrev pub bad_in : Field → List ℕ → Option BadColumn
bad_in field bytes = bad_from field (has_digits field 1 bytes) false 1 bytes

-- the first column at fault of a field on the card of a line, if the field begins in a column
abbrev pub bad_of : (first : ℕ) → (line : List ℕ) → Field → Option BadColumn
bad_of first line field = if field.first == first then bad_in field (padded line) else None

-- one of these
abbrev pub one_of : Option BadColumn → Option BadColumn → Option BadColumn
one_of None later = later
one_of (Some bad) later = Some bad

-- the first column at fault of the first of some fields that begins in a column and has one
unfoldable pub bad_among : (first : ℕ) → (line : List ℕ) → List Field → Option BadColumn
bad_among first line [] = None
bad_among first line (field ∷ fields) = one_of (bad_of first line field) (bad_among first line fields)
