-- The totals of a chart. A total needs a position for each of its digits, and one more if its amount has a sign rule: as many as the rule
-- on the word COUPLED counts.
use Rattle.std.specs.Prelude.{ℕ, List, Option, Some, None, filter_map}
use Rattle.chart_lines.specs.declared.charts.chart.Line.{Line}
use Rattle.chart_lines.specs.declared.charts.statement.Field.{Field}
use Rattle.chart_lines.specs.declared.charts.statement.Statement.{Statement}
use Rattle.chart_lines.specs.declared.charts.statement.Statement.TheVariants as says
use Rattle.chart_line_rules.specs.FieldRules.Coupled.{positions_of}
use Rattle.chart_line_rules.specs.FieldRules.Fields.{field_named}
use Rattle.chart_plans.specs.declared.wanted.total.Total.{Total}

-- the positions that a total of so many digits needs
abbrev pub need_of : Option Field → ℕ → ℕ
need_of field digits = positions_of field digits

-- the total that a line is, if it is a TOTAL amount
abbrev pub line_total : List Line → ℕ → Statement → Option Total
line_total lines number (says.TotalAmount total) =
    Some (record { level = total.level; line = number; need = need_of (field_named lines total.name) total.digits })
line_total lines number other = None

-- the totals of a chart, in the order of their lines
abbrev pub totals_of : List Line → List Total
totals_of lines = filter_map (λ line. line_total lines line.number line.statement) lines
