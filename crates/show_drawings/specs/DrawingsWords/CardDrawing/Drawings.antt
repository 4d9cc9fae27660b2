-- Cards as SVG: a blank card, the fields of a chart over it, and for each card its print and its holes. Each is a marker, so that a picture
-- shows them where a path has its points, without a copy of them. A column is 15 units wide, and a row 30 high.
use Rattle.std.specs.Prelude.{ℕ, ◌+◌, ◌*◌, ◌%◌, ◌==◌, List, [], ◌++◌, Option, Some, None, codes, decimal, if◌then◌else◌, length, map}
use Rattle.std.specs.List.{flat_map}
use Rattle.card_code.specs.CardCode.{print_character}
use Rattle.card_code.specs.declared.row.Row.{Row}
use Rattle.card_code.specs.declared.row.Row.TheVariants.{Zero, One, Two, Three, Four, Five, Six, Seven, Eight, Nine, Eleven, Twelve}
use Rattle.chart_lines.specs.ChartsWords.Field.{columns_of, sign_column}
use Rattle.chart_lines.specs.ChartsWords.Name.{name_text}
use Rattle.chart_lines.specs.declared.charts.chart.Line.{Line}
use Rattle.chart_lines.specs.declared.charts.statement.Field.{Field}
use Rattle.chart_lines.specs.declared.charts.statement.Statement.{Statement}
use Rattle.chart_lines.specs.declared.charts.statement.Statement.TheVariants as says
use Rattle.show_drawings.specs.MarkupWords.Escapes.{escaped}
use Rattle.show_drawings.specs.MarkupWords.Pieces.{numbered_words}
use Rattle.page_text.specs.Pages.{without_trailing_blanks}
use Rattle.show_drawings.specs.DrawingsWords.CardDrawing.Holes.{Hole, holes_of}

-- how far down a hole of a row begins
abbrev pub row_top : Row → ℕ
row_top Twelve = 70
row_top Eleven = 100
row_top Zero = 130
row_top One = 160
row_top Two = 190
row_top Three = 220
row_top Four = 250
row_top Five = 280
row_top Six = 310
row_top Seven = 340
row_top Eight = 370
row_top Nine = 400

-- a hole: a stroke down the middle of its column
unfoldable pub hole_text : Hole → List ℕ
hole_text hole = codes "M" ++ decimal (17 + 15 * hole.column) ++ codes " " ++ decimal (row_top hole.row) ++ codes "v20"

-- what the columns of a card say, each as a wheel prints it
abbrev pub characters_of : List ℕ → List ℕ
characters_of columns = map print_character columns

-- the same up to the last one that is no blank
abbrev pub print_of : List ℕ → List ℕ
print_of columns = without_trailing_blanks (characters_of columns)

-- the print on a card, each character over its column
unfoldable pub print_open : ℕ → List ℕ
print_open long = codes "<text class=\"print\" x=\"25\" y=\"53\" textLength=\"" ++ decimal (15 * long)

unfoldable pub print_glyphs : List ℕ
print_glyphs = codes "\" lengthAdjust=\"spacingAndGlyphs\">"

unfoldable pub print_text : List ℕ → List ℕ
print_text words = print_open (length words) ++ print_glyphs ++ escaped words ++ codes "</text>"

-- the front of a card's marker, by its number in the deck, and the number on it
unfoldable pub card_open : ℕ → List ℕ
card_open number = codes "<marker id=\"punched" ++ decimal number ++ codes "\" markerUnits=\"userSpaceOnUse\">"

unfoldable pub number_text : ℕ → List ℕ
number_text number = codes "<text class=\"number\" x=\"1180\" y=\"46\">card " ++ decimal number ++ codes "</text>"

-- the holes of a card, by its columns, as one path
unfoldable pub holes_open : List ℕ
holes_open = codes "<path class=\"holes\" d=\""

unfoldable pub holes_close : List ℕ
holes_close = codes "\"/></marker>\n"

unfoldable pub holes_text : List ℕ → List ℕ
holes_text columns = holes_open ++ flat_map hole_text (holes_of columns) ++ holes_close

-- a card, by its number and its columns
unfoldable pub card_text : ℕ → List ℕ → List ℕ
card_text number columns = card_open number ++ print_text (print_of columns) ++ number_text number ++ holes_text columns

-- a field over a card: a frame around its columns, whose left side rises to the name above the card, in the colour of the wires for which its
-- line asks
unfoldable pub field_open : ℕ → List ℕ
field_open number = codes "<g class=\"c" ++ decimal (number % 12) ++ codes "\">"

unfoldable pub frame_start : (first : ℕ) → List ℕ
frame_start first = codes "<path d=\"M" ++ decimal (10 + 15 * first) ++ codes " -10v444h"

unfoldable pub frame_end : (first columns : ℕ) → List ℕ
frame_end first columns = decimal (15 * columns) ++ codes "v-372H" ++ decimal (10 + 15 * first) ++ codes "\"/>"

unfoldable pub frame_text : (first columns : ℕ) → List ℕ
frame_text first columns = frame_start first ++ frame_end first columns

-- the same frame around the sign column of an amount, if it has one
abbrev pub sign_text : Option ℕ → List ℕ
sign_text None = []
sign_text (Some column) = frame_text column 1

-- a name stands in one of two rows: in the upper one if the number of its line is even
abbrev pub name_row : ℕ → List ℕ
name_row number = if number % 2 == 0 then codes "\" y=\"-44\">" else codes "\" y=\"-16\">"

unfoldable pub name_open : (number first : ℕ) → List ℕ
name_open number first = codes "<text x=\"" ++ decimal (10 + 15 * first) ++ name_row number

unfoldable pub named_text : (number first : ℕ) → (name : List ℕ) → List ℕ
named_text number first name = name_open number first ++ escaped (name_text name) ++ codes "</text></g>\n"

unfoldable pub field_text : (number : ℕ) → Field → List ℕ
field_text number field =
    field_open number ++ frame_text field.first (columns_of field) ++ sign_text (sign_column field.kind)
    ++ named_text number field.first field.name

-- the drawing of the field that a line of the chart gives, by the number of that line; another line has none
abbrev pub field_of : (number : ℕ) → Statement → List ℕ
field_of number (says.Field field) = field_text number field
field_of number other = []

abbrev pub line_field : Line → List ℕ
line_field line = field_of line.number line.statement

-- the drawings of all fields of a chart
unfoldable pub fields_open : List ℕ
fields_open = codes "<marker id=\"fields\" markerUnits=\"userSpaceOnUse\">\n"

unfoldable pub fields_text : List Line → List ℕ
fields_text lines =
    fields_open ++ flat_map line_field lines ++ codes "</marker>\n"

-- a row of printed digits, so far down
unfoldable pub digits_text : (down : ℕ) → (digits : List ℕ) → List ℕ
digits_text down digits =
    codes "<text class=\"digits\" x=\"28\" y=\"" ++ decimal down ++ codes "\" textLength=\"1200\" lengthAdjust=\"spacingAndGlyphs\">" ++ digits
    ++ codes "</text>\n"

unfoldable pub upper_digits : List ℕ
upper_digits =
    digits_text 146 (codes "00000000000000000000000000000000000000000000000000000000000000000000000000000000")
    ++ digits_text 176 (codes "11111111111111111111111111111111111111111111111111111111111111111111111111111111")
    ++ digits_text 206 (codes "22222222222222222222222222222222222222222222222222222222222222222222222222222222")
    ++ digits_text 236 (codes "33333333333333333333333333333333333333333333333333333333333333333333333333333333")
    ++ digits_text 266 (codes "44444444444444444444444444444444444444444444444444444444444444444444444444444444")

unfoldable pub lower_digits : List ℕ
lower_digits =
    digits_text 296 (codes "55555555555555555555555555555555555555555555555555555555555555555555555555555555")
    ++ digits_text 326 (codes "66666666666666666666666666666666666666666666666666666666666666666666666666666666")
    ++ digits_text 356 (codes "77777777777777777777777777777777777777777777777777777777777777777777777777777777")
    ++ digits_text 386 (codes "88888888888888888888888888888888888888888888888888888888888888888888888888888888")
    ++ digits_text 416 (codes "99999999999999999999999999999999999999999999999999999999999999999999999999999999")

-- a blank card: its sheet, and its printed digits
unfoldable pub blank_open : List ℕ
blank_open = codes "<marker id=\"blank\" markerUnits=\"userSpaceOnUse\"><path class=\"sheet\" d=\"M14 4H1196L1246 62V426Q1246 436 1236 436H14Q4 436 4 426V14Q4 4 14 4Z\"/>\n"

unfoldable pub blank_text : List ℕ
blank_text = blank_open ++ upper_digits ++ lower_digits ++ codes "</marker>\n"

-- what is drawn once, and shown in many places
unfoldable pub shapes_open : List ℕ
shapes_open = codes "<svg class=\"shapes\" xmlns=\"http://www.w3.org/2000/svg\" width=\"0\" height=\"0\">\n"

unfoldable pub shared_text : List Line → List ℕ
shared_text lines = shapes_open ++ blank_text ++ fields_text lines

-- the same, and cards of which the first has this number
unfoldable pub shapes_text : List Line → (first : ℕ) → List (List ℕ) → List ℕ
shapes_text lines first cards = shared_text lines ++ numbered_words card_text first cards ++ codes "</svg>\n"

-- A card in a picture, by its number: a path of no length, at whose points the style sheet shows the blank card and the fields, and the path
-- itself the card.
unfoldable pub shown_card : ℕ → List ℕ
shown_card number = codes "<path class=\"card\" marker-mid=\"url(#punched" ++ decimal number ++ codes ")\" d=\"M0 0h0h0\"/>"
