-- A rule on lines that say a thing once.
use Rattle.std.specs.Prelude.{ℕ, Bool, true, false, List, Option, Some, None, ◌&&◌, ◌==◌}
use Rattle.std.specs.List.{list_any}
use Rattle.chart_lines.specs.ChartsWords.Levels.{control_number, level_number}
use Rattle.chart_lines.specs.declared.charts.chart.Line.{Line}
use Rattle.chart_lines.specs.declared.charts.level.Level.{Level}
use Rattle.chart_lines.specs.declared.charts.statement.BodyLine.{BodyLine}
use Rattle.chart_lines.specs.declared.charts.statement.BodyLine.TheVariants as body
use Rattle.chart_lines.specs.declared.charts.statement.Statement.{Statement}
use Rattle.chart_lines.specs.declared.charts.statement.Statement.TheVariants as says
use Rattle.chart_lines.specs.ChartsWords.Name.{is_same_name}

-- whether two kinds of body line are the same
abbrev pub is_same_body : BodyLine → BodyLine → Bool
is_same_body body.Detail body.Detail = true
is_same_body (body.Total one) (body.Total other) = level_number one == level_number other
is_same_body one other = false

-- the level and the name of a field on a total line, as a text or as an amount
abbrev pub total_field : Statement → Option (Level × List ℕ)
total_field (says.TotalText level wheel name) = Some (level, name)
total_field (says.TotalAmount total) = Some (total.level, total.name)
total_field other = None

-- whether two fields on total lines have the same level and name
abbrev pub is_same_total : Option (Level × List ℕ) → Option (Level × List ℕ) → Bool
is_same_total (Some one) (Some other) = (level_number one.0 == level_number other.0) && is_same_name one.1 other.1
is_same_total one other = false

-- whether a line says again what another said, where a chart says it once
abbrev pub repeats : Statement → Statement → Bool
repeats (says.Print one) (says.Print other) = true
repeats (says.Form one_lines one_first one_overflow) (says.Form lines first overflow) = true
repeats (says.Control one_level one_name) (says.Control level name) = (control_number one_level == control_number level) && is_same_name one_name name
repeats (says.Space one_kind one_count) (says.Space kind count) = is_same_body one_kind kind
repeats (says.After one_kind one_action) (says.After kind action) = is_same_body one_kind kind
repeats (says.Tape one_channel one_stops) (says.Tape channel stops) = one_channel == channel
repeats (says.DetailField one_wheel one_name one_shown) (says.DetailField wheel name shown) = is_same_name one_name name
repeats one other = is_same_total (total_field one) (total_field other)

-- Line twice: a line settles what a line above it has settled, or prints a name again on a line of the report where it stands.
abbrev pub breaks_line_twice : List Line → Statement → Bool
breaks_line_twice earlier statement = list_any (λ line. repeats line.statement statement) earlier
