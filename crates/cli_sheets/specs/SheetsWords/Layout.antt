-- The layout of a chart: each line of its report on which it puts something, under a ruler of the wheels. A literal stands there
-- itself. Of a text each wheel has an x; of an amount each digit that is blank where a zero leads has a z, each other one
-- a 9; the point and the mark stand as they print.
use Rattle.std.specs.Prelude.{ℕ, ◌-◌, ◌==◌, List, [], ◌∷◌, ◌++◌, Bool, Option, Some, None, is_some, codes, decimal, option_map, option_to_list, replicate, true, if◌then◌else◌}
use Rattle.std.specs.List.{filter_map, flat_map, list_any}
use Rattle.page_text.specs.Pages.{without_trailing_blanks}
use Rattle.chart_lines.specs.ChartsWords.Headings.{heading_number}
use Rattle.chart_lines.specs.ChartsWords.Levels.{control_number, level_number}
use Rattle.chart_lines.specs.ChartsWords.Literals.{literal_in}
use Rattle.chart_lines.specs.ChartsWords.Name.{name_text}
use Rattle.chart_lines.specs.declared.charts.chart.Line.{Line}
use Rattle.chart_lines.specs.declared.charts.heading.HeadingLine.TheVariants as heading
use Rattle.chart_lines.specs.declared.charts.level.Level.TheVariants as level
use Rattle.chart_lines.specs.declared.charts.statement.BodyLine.TheVariants as body
use Rattle.chart_lines.specs.declared.charts.statement.DetailOption.{DetailOption}
use Rattle.chart_lines.specs.declared.charts.statement.DetailOption.TheVariants as shown
use Rattle.chart_lines.specs.declared.charts.statement.Statement.{Statement}
use Rattle.chart_lines.specs.declared.charts.statement.Statement.TheVariants as says
use Rattle.chart_line_rules.specs.FieldRules.Fields.{fields_of}
use Rattle.chart_line_rules.specs.PrintRules.Items.{is_same_line, item_of}
use Rattle.chart_line_rules.specs.declared.print_rules.items.Figure.{Figure}
use Rattle.chart_line_rules.specs.declared.print_rules.items.Item.{Item}
use Rattle.chart_line_rules.specs.declared.print_rules.items.PrintedLine.{PrintedLine}
use Rattle.chart_line_rules.specs.declared.print_rules.items.PrintedLine.TheVariants.{Heading, Body}
use Rattle.report_definition.specs.BodyLines.{Piece, line_of, piece_at}
use Rattle.report_definition.specs.Edits.{free_digits, marked, point}
use Rattle.cli_sheets.specs.SheetsWords.Rulers.{wheel_ruler}
use Rattle.cli_sheets.specs.declared.wording.TheConstants as wording

-- an amount
abbrev pub drawn_figure : Figure → List ℕ
drawn_figure figure =
    let free = free_digits figure.digits figure.decimals in
    replicate free 122 ++ (point figure.decimals ++ (replicate (figure.digits - free) 57 ++ marked figure.mark true))

-- a field over so many wheels
abbrev pub drawn_field : Option Figure → (wheels : ℕ) → List ℕ
drawn_field (Some figure) wheels = drawn_figure figure
drawn_field None wheels = replicate wheels 120

-- an item: a literal, or a field
abbrev pub drawn : (literal : Option (List ℕ)) → Item → List ℕ
drawn (Some literal) item = literal
drawn None item = drawn_field item.figure (item.end - item.first)

-- an item if it stands on this line of the report
abbrev pub only_on : PrintedLine → Option Item → Option Item
only_on printed None = None
only_on printed (Some item) = if is_same_line item.line printed then Some item else None

-- what a line of the chart puts on this line of the report
abbrev pub item_on : List Line → PrintedLine → Statement → Option Item
item_on lines printed statement = only_on printed (item_of (fields_of lines) statement)

-- the item at its wheels
abbrev pub drawn_piece : List Line → PrintedLine → Statement → Option Piece
drawn_piece lines printed statement =
    option_map (λ item. piece_at item.first (drawn (literal_in statement) item)) (item_on lines printed statement)

-- the 120 wheels of a line of the report
abbrev pub drawn_line : List Line → PrintedLine → List ℕ
drawn_line lines printed = line_of (filter_map (λ line. drawn_piece lines printed line.statement) lines)

-- the wheels of an item
abbrev pub wheels_told : Item → List ℕ
wheels_told item =
    if item.end - item.first == 1
    then wording.WHEEL.now ++ decimal item.first
    else wording.WHEELS.now ++ decimal item.first ++ codes " to " ++ decimal (item.end - 1)

-- how a field is shown on the line of a card
abbrev pub option_told : DetailOption → List ℕ
option_told (shown.Indicated level) = wording.ON_THE_FIRST_CARD.now ++ decimal (control_number level)
option_told other = []

-- a literal between apostrophes
abbrev pub literal_told : List ℕ → List ℕ
literal_told literal = codes "'" ++ literal ++ codes "'"

-- a field on the line of a card
abbrev pub shown_told : List ℕ → DetailOption → List ℕ
shown_told name how = name_text name ++ option_told how

-- a total
abbrev pub total_told : List ℕ → List ℕ
total_told name = wording.TOTAL_OF.now ++ name_text name

-- what is shown there
abbrev pub content_told : Statement → List ℕ
content_told (says.Head line wheel literal) = literal_told literal
content_told (says.DetailLiteral wheel literal) = literal_told literal
content_told (says.TotalLiteral level wheel literal) = literal_told literal
content_told (says.DetailField wheel name how) = shown_told name how
content_told (says.TotalText level wheel name) = name_text name
content_told (says.TotalAmount total) = total_told total.name
content_told other = []

-- an item by its wheels, what it shows, and its line of the chart
abbrev pub item_told : Line → Item → List ℕ
item_told line item = wheels_told item ++ codes ": " ++ content_told line.statement ++ wording.OF_LINE.now ++ decimal line.number ++ codes ")\n"

-- the items of a line of the report, in the order of the chart
abbrev pub items_told : List Line → PrintedLine → List ℕ
items_told lines printed =
    flat_map (λ line. flat_map (item_told line) (option_to_list (item_on lines printed line.statement))) lines

-- which line of the report
abbrev pub title : PrintedLine → List ℕ
title (Heading line) = wording.HEAD.now ++ decimal (heading_number line)
title (Body body.Detail) = codes "DETAIL"
title (Body (body.Total level)) = wording.TOTAL.now ++ decimal (level_number level)

-- whether the chart puts something on a line of the report
abbrev pub has_items : List Line → PrintedLine → Bool
has_items lines printed = list_any (λ line. is_some (item_on lines printed line.statement)) lines

-- a line of the report under the ruler, and its items below
abbrev pub line_drawn : List Line → PrintedLine → List ℕ
line_drawn lines printed =
    codes "\n" ++ title printed ++ codes "\n" ++ wheel_ruler ++ without_trailing_blanks (drawn_line lines printed) ++ codes "\n"
    ++ items_told lines printed

abbrev pub section : List Line → PrintedLine → List ℕ
section lines printed = if has_items lines printed then line_drawn lines printed else []

-- the lines of a report, from the top of a page down, the totals by level
abbrev pub report_lines : List PrintedLine
report_lines =
    Heading heading.First ∷ Heading heading.Second ∷ Heading heading.Third ∷ Body body.Detail ∷ Body (body.Total level.Minor)
    ∷ Body (body.Total level.Intermediate) ∷ Body (body.Total level.Major) ∷ Body (body.Total level.Final) ∷ []

abbrev pub sections : List Line → List PrintedLine → List ℕ
sections lines report_lines = flat_map (section lines) report_lines

-- what the letters stand for
unfoldable pub key : List ℕ
key = wording.WHAT_CHARACTERS_STAND_FOR.now

-- The layout.
abbrev pub layout : List Line → List ℕ
layout lines = key ++ sections lines report_lines
