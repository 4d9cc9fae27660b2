-- The texts of a report's lines. A line is 120 characters: each item at its wheels, and blanks elsewhere. A text shows the print
-- character of each of its columns, an amount is edited, and a literal stands as it is.
use Rattle.std.specs.Prelude.{ℕ, ◌+◌, ◌-◌, ◌==◌, ◌&&◌, Bool, true, nat_le, nat_lt, List, [], ◌∷◌, Option, Some, None, map, length, option_map, slice_index_or, if◌then◌else◌}
use Rattle.std.specs.List.{filter_map, range_with_len}
use Rattle.card_code.specs.CardCode.{print_character}
use Rattle.chart_lines.specs.ChartsWords.Field.{columns_of, decimals_of}
use Rattle.chart_lines.specs.ChartsWords.Headings.{heading_number}
use Rattle.chart_lines.specs.ChartsWords.Levels.{control_number, level_number}
use Rattle.chart_lines.specs.declared.charts.chart.Line.{Line}
use Rattle.chart_lines.specs.declared.charts.statement.DetailOption.{DetailOption}
use Rattle.chart_lines.specs.declared.charts.statement.DetailOption.TheVariants as shown
use Rattle.chart_lines.specs.declared.charts.statement.Field.{Field}
use Rattle.chart_lines.specs.declared.charts.statement.FieldKind.{FieldKind}
use Rattle.chart_lines.specs.declared.charts.statement.FieldKind.TheVariants as holds
use Rattle.chart_lines.specs.declared.charts.statement.Mark.{Mark}
use Rattle.chart_lines.specs.declared.charts.statement.Statement.{Statement}
use Rattle.chart_lines.specs.declared.charts.statement.Statement.TheVariants as says
use Rattle.chart_rules.specs.Below.chart_line_rules.FieldRules.Fields.{field_named}
use Rattle.chart_rules.specs.Below.chart_line_rules.PrintRules.Items.{mark_shown}
use Rattle.chart_rules.specs.ValidCard.{column_of}
use Rattle.report_definition.specs.Amounts.{columns_in, is_blank_on, value_of}
use Rattle.report_definition.specs.Edits.{edited, edited_blank}
use Rattle.report_definition.specs.Totals.{total_of}

-- A text and the wheel of its first character.
pub record Piece : Type 0 where
  pub wheel : ℕ
  pub text : List ℕ

-- the character on a wheel: that of the first piece that stands there, else a blank
abbrev pub char_at : List Piece → ℕ → ℕ
char_at [] wheel = 32
char_at (piece ∷ pieces) wheel =
    if nat_le piece.wheel wheel && nat_lt wheel (piece.wheel + length piece.text)
    then slice_index_or piece.text (wheel - piece.wheel) 32
    else char_at pieces wheel

-- the characters on the wheels 1 to 120
unfoldable pub line_of : List Piece → List ℕ
line_of pieces = map (char_at pieces) (range_with_len 1 120)

-- a text at a wheel
abbrev pub piece_at : ℕ → List ℕ → Piece
piece_at wheel text = record { wheel = wheel; text = text }

-- the text of a field on a card
abbrev pub text_on : List ℕ → Field → List ℕ
text_on card field = map (λ column. print_character (column_of card column)) (columns_in field)

-- an amount on a card, edited in as many digits as it has columns; a blank one shows its point alone
abbrev pub amount_on : List ℕ → Option Mark → Field → List ℕ
amount_on card mark field =
    if is_blank_on field card
    then edited_blank (columns_of field) (decimals_of field.kind) mark
    else edited (value_of field card) (columns_of field) (decimals_of field.kind) mark

-- what a field shows on the line of a card
abbrev pub field_on : List ℕ → Option Mark → Field → FieldKind → List ℕ
field_on card mark field holds.Text = text_on card field
field_on card mark field (holds.Amount decimals rule) = amount_on card mark field

-- whether a field is shown on a card that opens groups of the levels 1 to the given one: an indicated field is on the first card
-- of a group of its level alone
abbrev pub is_shown : DetailOption → ℕ → Bool
is_shown (shown.Indicated level) opens = nat_le (control_number level) opens
is_shown other opens = true

-- what a line of the chart puts on the line of a card, if it does
abbrev pub card_piece : List Line → ℕ → List ℕ → Statement → Option Piece
card_piece lines opens card (says.DetailLiteral wheel literal) = Some (piece_at wheel literal)
card_piece lines opens card (says.DetailField wheel name how) =
    if is_shown how opens
    then option_map (λ field. piece_at wheel (field_on card (mark_shown how) field field.kind)) (field_named lines name)
    else None
card_piece lines opens card other = None

-- the line of a card
abbrev pub card_line : List Line → ℕ → List ℕ → List ℕ
card_line lines opens card = line_of (filter_map (λ line. card_piece lines opens card line.statement) lines)

-- any card of a group, as its first one
abbrev pub a_card_of : List (List ℕ) → List ℕ
a_card_of [] = []
a_card_of (card ∷ cards) = card

-- what a line of the chart puts on the total line of a group of a level, if it does
abbrev pub total_piece : List Line → ℕ → List (List ℕ) → Statement → Option Piece
total_piece lines level group (says.TotalLiteral its_level wheel literal) =
    if level_number its_level == level then Some (piece_at wheel literal) else None
total_piece lines level group (says.TotalText its_level wheel name) =
    if level_number its_level == level
    then option_map (λ field. piece_at wheel (text_on (a_card_of group) field)) (field_named lines name)
    else None
total_piece lines level group (says.TotalAmount total) =
    if level_number total.level == level
    then option_map
    (λ field. piece_at total.wheel (edited (total_of field group) total.digits (decimals_of field.kind) total.mark))
    (field_named lines total.name)
    else None
total_piece lines level group other = None

-- the total line of a group
abbrev pub total_line : List Line → ℕ → List (List ℕ) → List ℕ
total_line lines level group = line_of (filter_map (λ line. total_piece lines level group line.statement) lines)

-- what a line of the chart puts on a heading line, if it does
abbrev pub heading_piece : ℕ → Statement → Option Piece
heading_piece number (says.Head line wheel literal) =
    if heading_number line == number then Some (piece_at wheel literal) else None
heading_piece number other = None

-- a heading line
abbrev pub heading_line : List Line → ℕ → List ℕ
heading_line lines number = line_of (filter_map (λ line. heading_piece number line.statement) lines)
