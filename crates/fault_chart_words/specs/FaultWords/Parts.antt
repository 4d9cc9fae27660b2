-- What stands where on a line of a chart: the name that a line is about, and the words that are marked. Words are counted from 0.
use Rattle.std.specs.Prelude.{ℕ, ◌+◌, ◌&&◌, Bool, true, false, not, List, [], ◌∷◌, Option, Some, nat_le, nat_lt, if◌then◌else◌}
use Rattle.chart_lines.specs.ChartsWords.Field.{columns_of}
use Rattle.chart_lines.specs.declared.charts.chart.Line.{Line}
use Rattle.chart_lines.specs.declared.charts.statement.BodyLine.{BodyLine}
use Rattle.chart_lines.specs.declared.charts.statement.BodyLine.TheVariants as body
use Rattle.chart_lines.specs.declared.charts.statement.After.TheVariants as after
use Rattle.chart_lines.specs.declared.charts.statement.Field.{Field}
use Rattle.chart_lines.specs.declared.charts.statement.Statement.{Statement}
use Rattle.chart_lines.specs.declared.charts.statement.Statement.TheVariants as says
use Rattle.chart_line_rules.specs.FieldRules.Columns.{is_column}
use Rattle.chart_line_rules.specs.FieldRules.Names.{name_used}
use Rattle.chart_line_rules.specs.PrintRules.Tapes.{form_lines}
use Rattle.chart_rules.specs.declared.rule.Rule.{Rule}
use Rattle.chart_rules.specs.declared.rule.Rule.TheVariants as rule

-- the name that a line describes or uses, if it has one
abbrev pub name_on : Statement → Option (List ℕ)
name_on (says.Field field) = Some field.name
name_on other = name_used other

-- where that name stands; a line without one is marked at its first word
abbrev pub name_place : Statement → ℕ
name_place (says.Field field) = 1
name_place (says.Control level name) = 2
name_place (says.DetailField wheel name shown) = 2
name_place (says.TotalText level wheel name) = 3
name_place (says.TotalAmount total) = 3
name_place other = 0

-- where the wheel of an item stands
abbrev pub wheel_place : Statement → ℕ
wheel_place (says.DetailLiteral wheel literal) = 1
wheel_place (says.DetailField wheel name shown) = 1
wheel_place other = 2

-- where the level of an INDICATE or a TOTAL stands
abbrev pub level_place : Statement → ℕ
level_place (says.DetailField wheel name shown) = 4
level_place other = 1

-- where the column stands that is not on the card: the first, the last, or that of the sign
abbrev pub field_column_place : Field → ℕ
field_column_place field =
    if not (is_column field.first) then 3 else if not (nat_le field.first field.last && nat_le field.last 80) then 4 else 7

abbrev pub column_place : Statement → ℕ
column_place (says.Field field) = field_column_place field
column_place other = 0

-- where it stands that an amount is too large: its last column, or its decimals
abbrev pub size_place : Statement → ℕ
size_place (says.Field field) = if nat_lt 8 (columns_of field) then 4 else 5
size_place other = 0

-- where the number of a FORM stands that leaves no room: the first line, the lines, or the overflow line
abbrev pub form_place : Statement → ℕ
form_place (says.Form lines first overflow) = if nat_lt first 1 then 2 else if nat_lt 144 lines then 1 else 3
form_place other = 3

-- whether a channel can have stops
abbrev pub has_stops : ℕ → Bool
has_stops channel = nat_le 2 channel && nat_le channel 11

-- where the channel of a SKIP stands
abbrev pub skip_place : BodyLine → ℕ
skip_place body.Detail = 3
skip_place (body.Total level) = 4

-- how many stops of a TAPE line stand before its first wrong one: each of them is above the one before it, and a line of the form
unfoldable pub good_stops : (lines before : ℕ) → List ℕ → ℕ
good_stops lines before [] = 0
good_stops lines before (stop ∷ stops) = if nat_lt before stop && nat_le stop lines then 1 + good_stops lines stop stops else 0

-- where the word of a TAPE line stands that is wrong: its channel, or its first wrong stop
abbrev pub tape_place : (lines channel : ℕ) → List ℕ → ℕ
tape_place lines channel stops = if has_stops channel then 2 + good_stops lines 0 stops else 1

-- where the channel of a SKIP stands, or the wrong word of a TAPE line
abbrev pub channel_place : List Line → Statement → ℕ
channel_place chart (says.After line (after.Skip channel)) = skip_place line
channel_place chart (says.Tape channel stops) = tape_place (form_lines chart) channel stops
channel_place chart other = 1

-- where a total is marked that needs COUPLED, or has it and doesn't need it: its digits, or that word
abbrev pub coupled_place : (needs_two : Bool) → ℕ
coupled_place true = 4
coupled_place false = 5

-- the place of the word that is marked where a line of a chart breaks a rule
abbrev pub marked_place : Rule → List Line → Statement → ℕ
marked_place rule.NameTwice chart statement = name_place statement
marked_place rule.Columns chart statement = column_place statement
marked_place rule.AmountSize chart statement = size_place statement
marked_place rule.UnknownName chart statement = name_place statement
marked_place rule.WrongKind chart statement = name_place statement
marked_place rule.LineTwice chart statement = name_place statement
marked_place rule.NoControl chart statement = level_place statement
marked_place rule.TotalTextNotControl chart statement = name_place statement
marked_place rule.DigitsRange chart statement = 4
marked_place rule.DigitsShrink chart statement = 4
marked_place rule.MarkMismatch chart statement = name_place statement
marked_place rule.WheelRange chart statement = wheel_place statement
marked_place rule.WheelOverlap chart statement = wheel_place statement
marked_place rule.WheelClash chart statement = wheel_place statement
marked_place rule.PrintKind chart statement = 0
marked_place rule.Form chart statement = form_place statement
marked_place rule.Tape chart statement = channel_place chart statement
marked_place rule.CoupledMark chart statement = 4
