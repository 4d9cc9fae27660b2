-- Rules on the columns of a field: they are columns of the card, and an amount is not too large.
use Rattle.std.specs.Prelude.{ℕ, Bool, true, false, Option, Some, None, not, ◌&&◌, ◌||◌, nat_le, nat_lt}
use Rattle.chart_lines.specs.declared.charts.statement.FieldKind.{FieldKind}
use Rattle.chart_lines.specs.declared.charts.statement.FieldKind.TheVariants as holds
use Rattle.chart_lines.specs.declared.charts.statement.Statement.{Statement}
use Rattle.chart_lines.specs.declared.charts.statement.Statement.TheVariants as says
use Rattle.chart_lines.specs.ChartsWords.Field.{sign_column, columns_of}

-- whether a number is that of a column of the card
abbrev pub is_column : ℕ → Bool
is_column column = nat_le 1 column && nat_le column 80

-- whether a sign column, if there is one, is a column of the card
abbrev pub has_good_sign : Option ℕ → Bool
has_good_sign (Some column) = is_column column
has_good_sign None = true

-- Columns: a field that isn't a run of columns of the card, or whose sign stands in no column of it.
abbrev pub breaks_columns : Statement → Bool
breaks_columns (says.Field field) = not (nat_le 1 field.first && nat_le field.first field.last && nat_le field.last 80 && has_good_sign (sign_column field.kind))
breaks_columns other = false

-- whether an amount of so many digits has more than 8, or more than 3 decimals, or more decimals than digits
abbrev pub is_too_large : FieldKind → ℕ → Bool
is_too_large (holds.Amount decimals rule) digits = nat_lt 8 digits || nat_lt 3 decimals || nat_lt digits decimals
is_too_large holds.Text digits = false

-- Amount size: a FIELD line describes an amount with too many digits or decimals.
abbrev pub breaks_amount_size : Statement → Bool
breaks_amount_size (says.Field field) = is_too_large field.kind (columns_of field)
breaks_amount_size other = false
