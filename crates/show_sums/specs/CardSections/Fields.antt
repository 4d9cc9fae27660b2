-- The fields of a chart on a card, as a table. Each field has a row: its name, its columns and the characters in them, and its sign column, if it
-- has one, with the character there.
use Rattle.std.specs.Prelude.{ℕ, ◌-◌, List, [], ◌++◌, Option, Some, None, codes, decimal, drop, take}
use Rattle.std.specs.List.{flat_map}
use Rattle.chart_lines.specs.ChartsWords.Field.{columns_of, sign_column}
use Rattle.chart_lines.specs.ChartsWords.Name.{name_text}
use Rattle.chart_lines.specs.declared.charts.chart.Line.{Line}
use Rattle.chart_lines.specs.declared.charts.statement.Field.{Field}
use Rattle.chart_lines.specs.declared.charts.statement.Statement.{Statement}
use Rattle.chart_lines.specs.declared.charts.statement.Statement.TheVariants as says
use Rattle.show_drawings.specs.DrawingsWords.CardDrawing.Drawings.{characters_of}
use Rattle.show_drawings.specs.MarkupWords.Escapes.{escaped}

-- the characters of a card that stand in the columns of a field
abbrev pub field_characters : (characters : List ℕ) → Field → List ℕ
field_characters characters field = take (columns_of field) (drop (field.first - 1) characters)

-- the front of a row: the name of the field, which links to its line of the chart, and its columns
unfoldable pub field_open : (number : ℕ) → List ℕ
field_open number = codes "<tr><th><a href=\"#line" ++ decimal number ++ codes "\">"

unfoldable pub first_text : ℕ → List ℕ
first_text first = codes "</a></th><td>columns " ++ decimal first

unfoldable pub last_text : ℕ → List ℕ
last_text last = codes " to " ++ decimal last ++ codes "</td><td><code>"

abbrev pub columns_text : (first last : ℕ) → List ℕ
columns_text first last = first_text first ++ last_text last

unfoldable pub named_open : (number : ℕ) → (name : List ℕ) → List ℕ
named_open number name = field_open number ++ escaped (name_text name)

-- the character of a card that stands in a column
abbrev pub column_character : (characters : List ℕ) → ℕ → List ℕ
column_character characters column = take 1 (drop (column - 1) characters)

-- a sign column, and the character in it
unfoldable pub sign_open : ℕ → List ℕ
sign_open column = codes ", sign in column " ++ decimal column ++ codes ": <code>"

unfoldable pub characters_close : List ℕ
characters_close = codes "</code>"

unfoldable pub column_sign : (characters : List ℕ) → ℕ → List ℕ
column_sign characters column = sign_open column ++ escaped (column_character characters column) ++ characters_close

-- the sign column of a field, if it has one, and the character in it
abbrev pub sign_text : (characters : List ℕ) → Option ℕ → List ℕ
sign_text characters (Some column) = column_sign characters column
sign_text characters None = []

unfoldable pub field_close : List ℕ
field_close = codes "</td></tr>\n"

unfoldable pub field_text : (characters : List ℕ) → (number : ℕ) → Field → List ℕ
field_text characters number field =
    named_open number field.name ++ columns_text field.first field.last
    ++ escaped (field_characters characters field) ++ characters_close ++ sign_text characters (sign_column field.kind) ++ field_close

-- the row of the field that a line of the chart gives; another line has none
abbrev pub field_of : (characters : List ℕ) → (number : ℕ) → Statement → List ℕ
field_of characters number (says.Field field) = field_text characters number field
field_of characters number other = []

abbrev pub line_field : (characters : List ℕ) → Line → List ℕ
line_field characters line = field_of characters line.number line.statement

-- the table of all fields of a chart, with the characters of a card
unfoldable pub fields_text : List Line → (characters : List ℕ) → List ℕ
fields_text lines characters = codes "<table>\n" ++ flat_map (line_field characters) lines ++ codes "</table>"

unfoldable pub card_fields : List Line → (card : List ℕ) → List ℕ
card_fields lines card = fields_text lines (characters_of card)
