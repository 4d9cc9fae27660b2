-- A field: what its columns hold, how many there are, and the column of its sign.
use Rattle.std.specs.Prelude.{ℕ, ◌+◌, ◌-◌, Bool, true, false, Option, Some, None}
use Rattle.chart_lines.specs.declared.charts.statement.Field.{Field}
use Rattle.chart_lines.specs.declared.charts.statement.FieldKind.{FieldKind}
use Rattle.chart_lines.specs.declared.charts.statement.FieldKind.TheVariants as holds
use Rattle.chart_lines.specs.declared.charts.statement.SignRule.{SignRule}
use Rattle.chart_lines.specs.declared.charts.statement.SignRule.TheVariants as sign

-- whether a field is an amount, and not a text
abbrev pub is_amount : FieldKind → Bool
is_amount holds.Text = false
is_amount (holds.Amount decimals rule) = true

-- the column of a sign rule
abbrev pub column_of_rule : SignRule → ℕ
column_of_rule (sign.X column) = column
column_of_rule (sign.NX column) = column

-- the sign column of an amount that has a sign rule
abbrev pub sign_column : FieldKind → Option ℕ
sign_column (holds.Amount decimals (Some rule)) = Some (column_of_rule rule)
sign_column other = None

-- the decimals of an amount; a text has none
abbrev pub decimals_of : FieldKind → ℕ
decimals_of holds.Text = 0
decimals_of (holds.Amount decimals rule) = decimals

-- how many columns a field has: the digits of an amount, the characters of a text
abbrev pub columns_of : Field → ℕ
columns_of field = field.last + 1 - field.first
