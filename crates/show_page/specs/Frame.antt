-- The frame of the page: the document around its parts, and its style sheet.
use Rattle.std.specs.Prelude.{◌≡◌, ℕ, ◌==◌, ◌&&◌, ◌||◌, Bool, true, not, List, ◌++◌, codes, decimal, nat_le}
use Rattle.std.specs.List.{list_all}

-- the front of the document, up to its title
unfoldable pub document_open : List ℕ
document_open = codes "<!DOCTYPE html>\n<html xmlns=\"http://www.w3.org/1999/xhtml\" lang=\"en\"><head><meta charset=\"utf-8\"/>\n<meta name=\"viewport\" content=\"width=device-width, initial-scale=1\"/><title>"

-- what stands between the title and the style sheet
unfoldable pub style_open : List ℕ
style_open = codes "</title>\n<style>"

-- What the style sheet may have: line feeds, and printable characters but & and <. So a browser takes none of it for markup, and it ends
-- where its element does. How the page looks is said by the sheet alone.
abbrev pub is_of_style : ℕ → Bool
is_of_style byte = (byte == 10) || ((nat_le 32 byte && nat_le byte 126) && not ((byte == 38) || (byte == 60)))

abbrev pub IsStyle : List ℕ → Type 0
IsStyle style = list_all is_of_style style ≡ true

-- the end of the head, and the front of the body, up to the title
unfoldable pub header_open : List ℕ
header_open = codes "</style></head><body>\n<header><p class=\"kind\">A report of a simulated IBM 407 accounting machine, and how it came about</p>\n<h1>"

-- what is said where only the first pages and cycles are shown
unfoldable pub cut_words : List ℕ
cut_words = codes "<p class=\"cut\">The deck has more than 200 cards: at most its first two pages, its first 200 cards and its first 200 cycles are shown.</p>\n"

-- what is said where the pages around one are shown
unfoldable pub around_words : (page : ℕ) → List ℕ
around_words page = codes "<p class=\"cut\">This is page " ++ decimal page ++ codes " of the report with the pages next to it, if any. The cards and cycles begin with the card before that of the first line, if any, and end with the card of the last line: 200 cards and 1000 cycles at most.</p>\n"

-- what stands before the sheets: a link to the report, one to the cards, where some are shown, and the others, up to how many characters the
-- widest line has
unfoldable pub nav_open : List ℕ
nav_open = codes "</header>\n<main>\n<nav><a href=\"#report\">Report</a> "

unfoldable pub cards_link : List ℕ
cards_link = codes "<a href=\"#cards\">Cards</a> "

unfoldable pub main_open : List ℕ
main_open = codes "<a href=\"#panel\">Panel</a> <a href=\"#chart\">Chart</a></nav>\n<h2 id=\"report\">The report</h2>\n<p>Each printed character is a link. The word at the left of a line tells which cycle printed it: one for a heading, that of a card, or one for the totals of a level. The final one comes after the last card.</p>\n<div class=\"sheets\" style=\"--n:"

-- what stands behind that
unfoldable pub sheets_open : List ℕ
sheets_open = codes "\">\n"

-- the end of the sheets
unfoldable pub sheets_close : List ℕ
sheets_close = codes "</div>\n"

-- what stands before the cards that are shown
unfoldable pub cards_open : List ℕ
cards_open = codes "<h2 id=\"cards\">The cards</h2>\n<p>The cards as they were read, the first one at the top. A hole in row 3 is a 3. With one in row 12, 11 or 0 above it, it is a letter. A card is a link.</p>\n"

-- what stands before the drawing
unfoldable pub panel_open : List ℕ
panel_open = codes "<h2>The panel</h2>\n<p>Impulses leave the machine at the hubs above, and come back to it at those below. The drawing is our own schematic, not the real layout of the machine.</p>\n<div class=\"board\">\n"

-- what stands before the legend of a chart
unfoldable pub legend_open : List ℕ
legend_open = codes "</div>\n<h2 id=\"chart\">What each line asks for</h2>\n<p>A wire has the colour of the first line that asks for it.</p>\n<div class=\"legend\">\n"

-- what stands around the text of a wiring chart
unfoldable pub wiring_open : List ℕ
wiring_open = codes "</div>\n<h2 id=\"chart\">The wiring chart</h2>\n<div class=\"legend\">\n<pre class=\"c0\">"

unfoldable pub wiring_close : List ℕ
wiring_close = codes "</pre>\n"

-- what stands between the legend and what is shown of what was chosen
unfoldable pub stage_open : List ℕ
stage_open = codes "</div>\n</main>\n<aside>\n"

-- the end of the document
unfoldable pub document_close : List ℕ
document_close = codes "</aside>\n</body></html>\n"
