-- What the items of a printed line send to their wheels: to each wheel a set of rows. Zero control makes the characters of the report of
-- that. Sets of rows are numbers, as the card code has them.
use Rattle.std.specs.Prelude.{◌≡◌, ◌↔◌, ℕ, ◌+◌, ◌-◌, ◌==◌, ◌≤◌, ◌&&◌, nat_le, nat_lt, zero, suc, Bool, true, List, [], ◌∷◌, ◌++◌, Option, Some, None, map, take, drop, length, option_map, slice_index_or, if◌then◌else◌}
use Rattle.std.specs.List.{filter_map, range_with_len}
use Rattle.print_unit.specs.Below.card_code.CardCode.{has_row, rows_of}
use Rattle.print_unit.specs.Below.card_code.Rows.{row_number, rows}
use Rattle.wiring_table.specs.Below.chart_line_rules.FieldRules.Fields.{field_named}
use Rattle.wiring_table.specs.Below.chart_line_rules.PrintRules.Items.{mark_shown}
use Rattle.wiring_table.specs.Below.chart_rules.ValidCard.{column_of}
use Rattle.wiring_table.specs.Below.chart_line_rules.declared.print_rules.items.Figure.{Figure}
use Rattle.wiring_table.specs.Below.chart_lines.ChartsWords.Field.{columns_of, decimals_of}
use Rattle.wiring_table.specs.Below.chart_lines.ChartsWords.Headings.{heading_number}
use Rattle.wiring_table.specs.Below.chart_lines.ChartsWords.Levels.{level_number}
use Rattle.wiring_table.specs.Below.chart_lines.declared.charts.chart.Line.{Line}
use Rattle.wiring_table.specs.Below.chart_lines.declared.charts.statement.Field.{Field}
use Rattle.wiring_table.specs.Below.chart_lines.declared.charts.statement.FieldKind.{FieldKind}
use Rattle.wiring_table.specs.Below.chart_lines.declared.charts.statement.FieldKind.TheVariants as holds
use Rattle.wiring_table.specs.Below.chart_lines.declared.charts.statement.Mark.{Mark}
use Rattle.wiring_table.specs.Below.chart_lines.declared.charts.statement.Statement.{Statement}
use Rattle.wiring_table.specs.Below.chart_lines.declared.charts.statement.Statement.TheVariants as says
use Rattle.print_unit.specs.Below.hubs.declared.jack.Jack.TheVariants as jack
use Rattle.print_unit.specs.ZeroControl.{Wheel}
use Rattle.report_definition.specs.Amounts.{columns_in, digits_on, is_negated}
use Rattle.report_definition.specs.BodyLines.{is_shown}
use Rattle.report_definition.specs.Edits.{last_digits, mark_text}
use Rattle.wiring_table.specs.Jacks.{ChartJack}

-- What an item sends. Characters: the set of rows of each of its wheels, from its first wheel on. An amount: the digits of its positions
-- from the left, none where no digit comes, and whether the rows of its mark come.
pub data Shown : Type 0 where
  Characters : (wheel : ℕ) (sets : List ℕ) → Shown
  Amount : (wheel : ℕ) (figure : Figure) (digits : List (Option ℕ)) (negative : Bool) → Shown

-- the rows of a character; a character that is no deck character has none
abbrev pub set_of_character : ℕ → ℕ
set_of_character character = elim (rows_of character) [ None ↦ 0 | Some set ↦ set ]

-- the row of a digit, if one comes
abbrev pub digit_set : Option ℕ → ℕ
digit_set None = 0
digit_set (Some digit) = set_of_character (48 + digit)

-- the wheel of the point, where there are decimals
abbrev pub point_sets : ℕ → List ℕ
point_sets zero = []
point_sets (suc decimals) = set_of_character 46 ∷ []

-- the wheels of a mark: its characters, or nothing
abbrev pub mark_sets : Option Mark → Bool → List ℕ
mark_sets None negative = []
mark_sets (Some mark) negative =
    map (λ character. if negative then set_of_character character else 0) (mark_text mark)

-- the sets of rows that an item sends, from its first wheel on
abbrev pub sets_of : Shown → List ℕ
sets_of (Characters wheel sets) = sets
sets_of (Amount wheel figure digits negative) =
    map digit_set (take (figure.digits - figure.decimals) digits)
    ++ (point_sets figure.decimals
    ++ (map digit_set (drop (figure.digits - figure.decimals) digits) ++ mark_sets figure.mark negative))

-- the first wheel of an item
abbrev pub wheel_of_shown : Shown → ℕ
wheel_of_shown (Characters wheel sets) = wheel
wheel_of_shown (Amount wheel figure digits negative) = wheel

-- the set of rows that a wheel gets: that of the first item that stands there, and no rows where none does
abbrev pub set_on : List Shown → ℕ → ℕ
set_on [] v = 0
set_on (shown ∷ others) v =
    if nat_le (wheel_of_shown shown) v && nat_lt v (wheel_of_shown shown + length (sets_of shown))
    then slice_index_or (sets_of shown) (v - wheel_of_shown shown) 0
    else set_on others v

-- what a field on the line of a card sends: a text its columns, an amount its digits, and its mark where its sign rule says so
abbrev pub field_sends : List ℕ → ℕ → Option Mark → Field → FieldKind → Shown
field_sends card wheel mark field holds.Text = Characters wheel (map (column_of card) (columns_in field))
field_sends card wheel mark field (holds.Amount decimals rule) =
    Amount wheel (record { digits = columns_of field; decimals = decimals; mark = mark }) (digits_on field card)
    (is_negated field.kind card)

-- what a line of the chart sends to the line of a card that opens groups of the levels 1 to the given one
abbrev pub card_sends : List Line → ℕ → List ℕ → Statement → Option Shown
card_sends lines opens card (says.DetailLiteral wheel literal) = Some (Characters wheel (map set_of_character literal))
card_sends lines opens card (says.DetailField wheel name how) =
    if is_shown how opens
    then option_map (λ field. field_sends card wheel (mark_shown how) field field.kind) (field_named lines name)
    else None
card_sends lines opens card other = None

-- What the total of an amount holds when it is printed: its figure, and whether its balance latch is set.
pub record Printed : Type 0 where
  pub figure : ℕ
  pub latch : Bool

-- what a line of the chart sends to the total line of a level, where the totals by name hold this, and the storage units hold the texts
-- of a card
abbrev pub total_sends : List Line → ℕ → (List ℕ → Printed) → List ℕ → Statement → Option Shown
total_sends lines level held card (says.TotalLiteral its_level wheel literal) =
    if level_number its_level == level then Some (Characters wheel (map set_of_character literal)) else None
total_sends lines level held card (says.TotalText its_level wheel name) =
    if level_number its_level == level
    then option_map (λ field. Characters wheel (map (column_of card) (columns_in field))) (field_named lines name)
    else None
total_sends lines level held card (says.TotalAmount total) =
    if level_number total.level == level
    then option_map
    (λ field. Amount total.wheel (record { digits = total.digits; decimals = decimals_of field.kind; mark = total.mark })
    (map Some (last_digits total.digits (held total.name).figure)) (held total.name).latch)
    (field_named lines total.name)
    else None
total_sends lines level held card other = None

-- what a line of the chart sends to a heading line
abbrev pub heading_sends : ℕ → Statement → Option Shown
heading_sends number (says.Head line wheel literal) =
    if heading_number line == number then Some (Characters wheel (map set_of_character literal)) else None
heading_sends number other = None

-- what comes to the line of a card, to a total line, and to a heading line
abbrev pub sent_to_card : List Line → ℕ → List ℕ → List Shown
sent_to_card lines opens card = filter_map (λ line. card_sends lines opens card line.statement) lines

abbrev pub sent_to_total : List Line → ℕ → (List ℕ → Printed) → List ℕ → List Shown
sent_to_total lines level held card = filter_map (λ line. total_sends lines level held card line.statement) lines

abbrev pub sent_to_heading : List Line → ℕ → List Shown
sent_to_heading lines number = filter_map (λ line. heading_sends number line.statement) lines

-- The jacks of wheels, as tests of their numbers, are those of the chart.
pub record HasJacksOf (lines : List Line) (link suppress symbol : ℕ → Bool) : Type 0 where
  pub links : (v : ℕ) → 1 ≤ v → v ≤ 120 → (link v ≡ true) ↔ ChartJack lines (jack.Link v)
  pub suppresses : (v : ℕ) → 1 ≤ v → v ≤ 120 → (suppress v ≡ true) ↔ ChartJack lines (jack.Suppress v)
  pub symbols : (v : ℕ) → 1 ≤ v → v ≤ 120 → (symbol v ≡ true) ↔ ChartJack lines (jack.Symbol v)

-- a wheel that received a set of rows
abbrev pub wheel_with : (link suppress symbol : ℕ → Bool) → (ℕ → ℕ) → ℕ → Wheel
wheel_with link suppress symbol set v = record {
  received = map (λ row. has_row (set v) (row_number row)) rows;
  link = link v;
  suppress = suppress v;
  symbol = symbol v;
}

-- the wheels 1 to 120, each with the set of rows that it received
abbrev pub wheels_with : (link suppress symbol : ℕ → Bool) → (ℕ → ℕ) → List Wheel
wheels_with link suppress symbol set = map (wheel_with link suppress symbol set) (range_with_len 1 120)
