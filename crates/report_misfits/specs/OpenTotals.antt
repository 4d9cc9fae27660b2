-- Open totals: what is kept of the totals of a chart between two cards. Each is the sum of its amount over the cards so far of the
-- unfinished group of its level.
use Rattle.std.specs.Prelude.{ℕ, ℤ, pos, ◌+ℤ◌, ◌==◌, nat_le, List, Option, Some, None, option_map, if◌then◌else◌}
use Rattle.std.specs.List.{filter_map}
use Rattle.chart_lines.specs.ChartsWords.Levels.{level_number}
use Rattle.chart_lines.specs.declared.charts.chart.Line.{Line}
use Rattle.chart_lines.specs.declared.charts.statement.Field.{Field}
use Rattle.chart_lines.specs.declared.charts.statement.Statement.{Statement}
use Rattle.chart_lines.specs.declared.charts.statement.Statement.TheVariants as says
use Rattle.chart_lines.specs.declared.charts.statement.TotalLine.{TotalLine}
use Rattle.chart_line_rules.specs.FieldRules.Fields.{field_named}
use Rattle.report_definition.specs.Amounts.{value_of}
use Rattle.report_definition.specs.Misfits.{fits_in, Misfit}
use Rattle.report_definition.specs.Totals.{total_of}
use Rattle.report_misfits.specs.declared.open_total.OpenTotal.{OpenTotal}

-- the open total of an amount, given the unfinished groups
abbrev pub open_of : TotalLine → (ℕ → List (List ℕ)) → Field → OpenTotal
open_of asked so_far field =
    record { level = asked.level; digits = asked.digits; field = field; sum = total_of field (so_far (level_number asked.level)) }

-- the open total of a line of the chart, if the line is a total of an amount
abbrev pub open_on : List Line → (ℕ → List (List ℕ)) → Statement → Option OpenTotal
open_on lines so_far (says.TotalAmount total) =
    option_map (open_of total so_far) (field_named lines total.name)
open_on lines so_far other = None

-- the open totals of some lines of the chart, in the order of the lines
abbrev pub open_totals : (lines : List Line) → (ℕ → List (List ℕ)) → (some : List Line) → List OpenTotal
open_totals lines so_far some = filter_map (λ line. open_on lines so_far line.statement) some

-- an open total with a value more
abbrev pub with_value : ℤ → OpenTotal → OpenTotal
with_value value total = record total { sum = total.sum +ℤ value }

-- an open total with the amount of one card more
abbrev pub with_card : List ℕ → OpenTotal → OpenTotal
with_card card total = with_value (value_of total.field card) total

-- an open total once the groups of the levels up to a given one have ended: 0 where its own is among them
abbrev pub closed_to : ℕ → OpenTotal → OpenTotal
closed_to ended total = if nat_le (level_number total.level) ended then record total { sum = pos 0 } else total

-- what is told of an open total where the group of a level ends: that it has too many digits, where it is of that level
abbrev pub misfit_at : (level card : ℕ) → OpenTotal → Option Misfit
misfit_at level card total =
    if level_number total.level == level
    then (if fits_in total.digits total.sum
    then None
    else Some (record { level = total.level; name = total.field.name; card = card }))
    else None
