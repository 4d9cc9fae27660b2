-- A rule on the word COUPLED of version 2: a total bears it exactly where it takes two counter groups.
use Rattle.std.specs.Prelude.{ℕ, ◌+◌, ◌==◌, Bool, true, false, List, Option, Some, None, is_some, not, ◌&&◌, nat_lt, if◌then◌else◌}
use Rattle.std.specs.List.{list_any}
use Rattle.chart_lines.specs.ChartsWords.Field.{sign_column}
use Rattle.chart_lines.specs.declared.charts.chart.Line.{Line}
use Rattle.chart_lines.specs.declared.charts.chart.Version.{Version}
use Rattle.chart_lines.specs.declared.charts.chart.Version.TheVariants.{First, Second}
use Rattle.chart_lines.specs.declared.charts.statement.Field.{Field}
use Rattle.chart_lines.specs.declared.charts.statement.Statement.{Statement}
use Rattle.chart_lines.specs.declared.charts.statement.Statement.TheVariants as says
use Rattle.chart_line_rules.specs.FieldRules.Fields.{first_named}

-- whether a field is there and has a sign rule
abbrev pub has_sign : Option Field → Bool
has_sign (Some field) = is_some (sign_column field.kind)
has_sign None = false

-- the positions that a total of a field needs: one for each of its digits, and one more if the field has a sign rule
abbrev pub positions_of : Option Field → ℕ → ℕ
positions_of field digits = digits + (if has_sign field then 1 else 0)

-- whether so many positions take two counter groups: the widest has 8
abbrev pub needs_two : ℕ → Bool
needs_two need = nat_lt 8 need

-- whether a line is a total that takes two counter groups
abbrev pub takes_two : List Field → Statement → Bool
takes_two fields (says.TotalAmount total) = needs_two (positions_of (first_named fields total.name) total.digits)
takes_two fields other = false

-- whether a number is that of a line with the word COUPLED
abbrev pub is_coupled : List ℕ → ℕ → Bool
is_coupled coupled number = list_any (λ each. each == number) coupled

-- whether a total bears the word where one group is enough for it, or lacks it where it takes two
abbrev pub is_mismarked : Bool → Bool → Bool
is_mismarked true two = not two
is_mismarked false two = two

-- whether a line is a total of an amount
abbrev pub is_total : Statement → Bool
is_total (says.TotalAmount total) = true
is_total other = false

-- Coupled mark: a chart of version 2 says of a total that it takes two groups, and it takes one, or the other way round.
abbrev pub breaks_coupled_mark : List Field → Version → List ℕ → Line → Bool
breaks_coupled_mark fields First coupled line = false
breaks_coupled_mark fields Second coupled line =
    is_total line.statement && is_mismarked (is_coupled coupled line.number) (takes_two fields line.statement)
