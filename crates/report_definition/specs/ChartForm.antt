-- What a chart says of the form: its lines, its heading lines, the spacing of each kind of line, what follows it, and the stops of
-- the channels.
use Rattle.std.specs.Prelude.{ℕ, ◌==◌, Bool, true, false, List, [], ◌∷◌, Option, Some, None, if◌then◌else◌}
use Rattle.std.specs.List.{list_any}
use Rattle.chart_lines.specs.ChartsWords.Levels.{level_number}
use Rattle.chart_lines.specs.ChartsWords.Spacings.{spacing_number}
use Rattle.chart_lines.specs.declared.charts.chart.Line.{Line}
use Rattle.chart_lines.specs.declared.charts.statement.After.{After}
use Rattle.chart_lines.specs.declared.charts.statement.BodyLine.{BodyLine}
use Rattle.chart_lines.specs.declared.charts.statement.BodyLine.TheVariants as body
use Rattle.chart_lines.specs.declared.charts.statement.Printing.TheVariants as prints
use Rattle.chart_lines.specs.declared.charts.statement.Statement.{Statement}
use Rattle.chart_lines.specs.declared.charts.statement.Statement.TheVariants as says
pub use Rattle.chart_rules.specs.Below.chart_line_rules.PrintRules.Forms.{heading_count}

-- A form: how many lines a page has, its first line, and the line at which it is full.
pub record Form : Type 0 where
  pub lines : ℕ
  pub first : ℕ
  pub overflow : ℕ

-- the form that a line of the chart gives; another line leaves it to the lines below
abbrev pub form_from : Statement → Form → Form
form_from (says.Form lines first overflow) below = record { lines = lines; first = first; overflow = overflow }
form_from other below = below

-- the form of a chart: that of its FORM line
abbrev pub form_of : List Line → Form
form_of [] = record { lines = 0; first = 0; overflow = 0 }
form_of (line ∷ lines) = form_from line.statement (form_of lines)

-- whether a line of the chart is PRINT DETAIL
abbrev pub is_print_detail : Statement → Bool
is_print_detail (says.Print prints.Detail) = true
is_print_detail other = false

-- whether the report has a line for each card
abbrev pub prints_details : List Line → Bool
prints_details lines = list_any (λ line. is_print_detail line.statement) lines

-- whether a line of the chart puts an item on the total line of a level
abbrev pub is_total_item : ℕ → Statement → Bool
is_total_item level (says.TotalLiteral its_level wheel literal) = level_number its_level == level
is_total_item level (says.TotalText its_level wheel name) = level_number its_level == level
is_total_item level (says.TotalAmount total) = level_number total.level == level
is_total_item level other = false

-- whether the report has a total line for each group of a level
abbrev pub prints_totals : List Line → ℕ → Bool
prints_totals lines level = list_any (λ line. is_total_item level line.statement) lines

-- the kind of a body line as a number: 0 for the line of a card, the level for a total line
abbrev pub kind_number : BodyLine → ℕ
kind_number body.Detail = 0
kind_number (body.Total level) = level_number level

-- the spacing that a line of the chart gives a kind of line; another line leaves it to the lines below
abbrev pub spacing_from : ℕ → Statement → ℕ → ℕ
spacing_from kind (says.Space line spacing) below = if kind_number line == kind then spacing_number spacing else below
spacing_from kind other below = below

-- the spacing of a kind of line: that of its SPACE line, else 1
abbrev pub spacing_of : List Line → ℕ → ℕ
spacing_of [] kind = 1
spacing_of (line ∷ lines) kind = spacing_from kind line.statement (spacing_of lines kind)

-- what a line of the chart has follow a kind of line
abbrev pub after_from : ℕ → Statement → Option After → Option After
after_from kind (says.After line action) below = if kind_number line == kind then Some action else below
after_from kind other below = below

-- what follows a kind of line, if something does
abbrev pub after_of : List Line → ℕ → Option After
after_of [] kind = None
after_of (line ∷ lines) kind = after_from kind line.statement (after_of lines kind)

-- the stops that a line of the chart gives a channel
abbrev pub stops_from : ℕ → Statement → List ℕ → List ℕ
stops_from channel (says.Tape its_channel stops) below = if its_channel == channel then stops else below
stops_from channel other below = below

-- the stops of a channel, in rising order
abbrev pub stops_of : List Line → ℕ → List ℕ
stops_of [] channel = []
stops_of (line ∷ lines) channel = stops_from channel line.statement (stops_of lines channel)
