-- Which totals of a deck have more digits than their total lines have room for, and what is written of each: its level and name, the last card
-- of its group, the total itself, and for how much the line has room.
use Rattle.std.specs.Prelude.{ℕ, zero, suc, ℤ, ◌+◌, ◌-◌, ◌^◌, ◌==◌, List, [], ◌∷◌, ◌++◌, Option, Some, None, codes, decimal, if◌then◌else◌}
use Rattle.std.specs.List.{flat_map}
use Rattle.chart_lines.specs.ChartsWords.Field.{decimals_of}
use Rattle.chart_lines.specs.ChartsWords.Levels.{level_number}
use Rattle.chart_lines.specs.ChartsWords.Name.{name_text}
use Rattle.chart_lines.specs.declared.charts.chart.Line.{Line}
use Rattle.chart_lines.specs.declared.charts.statement.Field.{Field}
use Rattle.chart_lines.specs.declared.charts.statement.Statement.{Statement}
use Rattle.chart_lines.specs.declared.charts.statement.Statement.TheVariants as says
use Rattle.chart_lines.specs.declared.charts.statement.TotalLine.{TotalLine}
use Rattle.chart_line_rules.specs.FieldRules.Fields.{field_named}
use Rattle.report_definition.specs.Breaks.{cleared, highest, no_cards, taking}
use Rattle.report_definition.specs.Misfits.{fits_in}
use Rattle.report_definition.specs.Totals.{total_of}
use Rattle.cli_sheets.specs.SheetsWords.Fields.{number_told, value_told}

-- the largest number that a total line has room for
abbrev pub room_of : TotalLine → ℕ
room_of total = 10 ^ total.digits - 1

-- of which total something is told: its level, its name and the last card of its group
unfoldable pub head_words : TotalLine → (number : ℕ) → List ℕ
head_words total number =
    codes "level " ++ decimal (level_number total.level) ++ codes " name " ++ name_text total.name ++ codes " card " ++ decimal number
    ++ codes ": the total is "

-- how large it is
unfoldable pub sum_number : Field → ℤ → List ℕ
sum_number field sum = value_told sum (decimals_of field.kind)

-- for how much its line has room
abbrev pub room_head : List ℕ
room_head = codes ", and its line has room for "

unfoldable pub room_number : TotalLine → Field → List ℕ
room_number total field = number_told (room_of total) (decimals_of field.kind) ++ codes "\n"

-- a total that a line has no room for, with its decimals
abbrev pub large_words : TotalLine → (number : ℕ) → Field → ℤ → List ℕ
large_words total number field sum = head_words total number ++ sum_number field sum ++ room_head ++ room_number total field

-- the same of the total of a field over a group that ends with the card of a number, if the line has no room for it
abbrev pub large_of : TotalLine → (number : ℕ) → (group : List (List ℕ)) → Option Field → List ℕ
large_of total number group None = []
large_of total number group (Some field) =
    if fits_in total.digits (total_of field group) then [] else large_words total number field (total_of field group)

-- of a line of the chart for a group of a level that ends
abbrev pub large_on : List Line → (level number : ℕ) → (group : List (List ℕ)) → Statement → List ℕ
large_on lines level number group (says.TotalAmount total) =
    if level_number total.level == level then large_of total number group (field_named lines total.name) else []
large_on lines level number group other = []

-- of all lines, in the order of the chart
abbrev pub large_in : List Line → (level number : ℕ) → (group : List (List ℕ)) → List ℕ
large_in lines level number group = flat_map (λ line. large_on lines level number group line.statement) lines

-- of the groups of the levels 1 to a given one that end with the card of a number, the lowest first
abbrev pub large_to : List Line → (number level : ℕ) → (ℕ → List (List ℕ)) → List ℕ
large_to lines number zero groups = []
large_to lines number (suc level) groups = large_to lines number level groups ++ large_in lines (suc level) number (groups (suc level))

-- of the groups that end with the card of a number and with the cards after it
abbrev pub large_from : List Line → (number : ℕ) → (ℕ → List (List ℕ)) → List ℕ → List (List ℕ) → List ℕ
large_from lines number so_far card [] = large_to lines number 4 (taking card so_far)
large_from lines number so_far card (next ∷ cards) =
    let ended = highest lines card next in
    large_to lines number ended (taking card so_far) ++ large_from lines (number + 1) (cleared ended (taking card so_far)) next cards

-- of all groups of a deck
abbrev pub large_told : List Line → List (List ℕ) → List ℕ
large_told lines [] = []
large_told lines (card ∷ cards) = large_from lines 1 no_cards card cards
