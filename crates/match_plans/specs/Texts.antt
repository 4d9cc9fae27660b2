-- Where a text on a total line stands.
use Rattle.std.specs.Prelude.{Option, Some, None}
use Rattle.chart_lines.specs.ChartsWords.Levels.{level_number}
use Rattle.chart_lines.specs.declared.charts.statement.Statement.{Statement}
use Rattle.chart_lines.specs.declared.charts.statement.Statement.TheVariants as says
use Rattle.match_plans.specs.declared.text_units.TextPlace.{TextPlace}

-- the text that a line of a chart puts on a total line, if it is one
abbrev pub text_of : Statement → Option TextPlace
text_of (says.TotalText level wheel name) = Some (record { level = level_number level; wheel = wheel })
text_of other = None
