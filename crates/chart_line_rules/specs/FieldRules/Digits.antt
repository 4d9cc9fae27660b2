-- The digits of a total, and a rule on them.
use Rattle.std.specs.Prelude.{ℕ, Bool, false, List, Option, Some, None, is_some, ◌&&◌, ◌||◌, nat_lt}
use Rattle.chart_lines.specs.declared.charts.statement.Field.{Field}
use Rattle.chart_lines.specs.declared.charts.statement.Statement.{Statement}
use Rattle.chart_lines.specs.declared.charts.statement.Statement.TheVariants as says
use Rattle.chart_line_rules.specs.FieldRules.Fields.{first_named}
use Rattle.chart_lines.specs.ChartsWords.Field.{sign_column, columns_of}

-- the digits of the total on a line
abbrev pub digits_of : Statement → ℕ
digits_of (says.TotalAmount total) = total.digits
digits_of other = 0

-- whether a total of a field has fewer digits than the field, more than 16, or more than 15 with a sign column
abbrev pub is_out_of_digits : Option Field → ℕ → Bool
is_out_of_digits (Some field) digits = nat_lt digits (columns_of field) || nat_lt 16 digits || (is_some (sign_column field.kind) && nat_lt 15 digits)
is_out_of_digits None digits = false

-- Digits range: a TOTAL line gives a total less room than one card of its field needs, or more than two groups have.
abbrev pub breaks_digits_range : List Field → Statement → Bool
breaks_digits_range fields (says.TotalAmount total) = is_out_of_digits (first_named fields total.name) total.digits
breaks_digits_range fields other = false
