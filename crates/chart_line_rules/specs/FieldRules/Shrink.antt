-- A rule on the digits of a total and of the lower totals of the same amount.
use Rattle.std.specs.Prelude.{Bool, false, List, ◌&&◌, nat_lt}
use Rattle.std.specs.List.{list_any}
use Rattle.chart_lines.specs.ChartsWords.Levels.{level_number}
use Rattle.chart_lines.specs.declared.charts.chart.Line.{Line}
use Rattle.chart_lines.specs.declared.charts.statement.Statement.{Statement}
use Rattle.chart_lines.specs.declared.charts.statement.Statement.TheVariants as says
use Rattle.chart_lines.specs.declared.charts.statement.TotalLine.{TotalLine}
use Rattle.chart_lines.specs.ChartsWords.Name.{is_same_name}

-- whether a line is a total of the same amount as a given total, at a lower level and in more digits
abbrev pub is_wider_below : TotalLine → Statement → Bool
is_wider_below above (says.TotalAmount total) =
    nat_lt (level_number total.level) (level_number above.level) && is_same_name total.name above.name && nat_lt above.digits total.digits
is_wider_below above other = false

-- whether a chart has a total of the same amount as a given total, at a lower level and in more digits
abbrev pub has_wider_below : List Line → TotalLine → Bool
has_wider_below lines above = list_any (λ line. is_wider_below above line.statement) lines

-- Digits shrink: a total has less room than the totals of a lower level that are added up in it.
abbrev pub breaks_digits_shrink : List Line → Statement → Bool
breaks_digits_shrink lines (says.TotalAmount total) = has_wider_below lines total
breaks_digits_shrink lines other = false
