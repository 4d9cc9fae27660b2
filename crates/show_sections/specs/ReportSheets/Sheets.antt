-- The pages of a report as markup. A sheet for each page from one to the last one with a line, a row for each line of the form. A row
-- with a line has a word for the cycle that printed it, and a link for each printed character.
use Rattle.std.specs.Prelude.{ℕ, ◌-◌, ◌==◌, ◌&&◌, List, [], ◌∷◌, ◌++◌, codes, decimal, if◌then◌else◌, length, max, slice_index_or}
use Rattle.std.specs.List.{flat_map, range_with_len}
use Rattle.show_drawings.specs.MarkupWords.Escapes.{escaped}
use Rattle.explain_wheels.specs.declared.explanations.found.FoundLine.{FoundLine}
use Rattle.net.specs.Cycles.{level_number}
use Rattle.net.specs.declared.cycle.Cycle.{Cycle}
use Rattle.net.specs.declared.cycle.Cycle.TheVariants.{RunIn, Card, Prog, Head}
use Rattle.show_links.specs.Links.{card_word, row_name}
use Rattle.show_links.specs.declared.shown.Shown.{Shown}
use Rattle.page_text.specs.Pages.{last_page, text_at, without_trailing_blanks}
use Rattle.page_text.specs.declared.placed_lines.placed_line.PlacedLine.{PlacedLine}

-- the name of a wheel of a row
abbrev pub wheel_name : (page line wheel : ℕ) → List ℕ
wheel_name page line wheel = codes "p" ++ decimal page ++ codes "l" ++ decimal line ++ codes "w" ++ decimal wheel

-- the link of a wheel of a line
abbrev pub link_text : (page line wheel : ℕ) → List ℕ
link_text page line wheel = codes "<a href=\"#" ++ wheel_name page line wheel ++ codes "\">"

-- a printed character
abbrev pub printed_text : (page line wheel character : ℕ) → List ℕ
printed_text page line wheel character = link_text page line wheel ++ escaped (character ∷ []) ++ codes "</a>"

-- what a wheel printed: a blank, or a character that is a link
unfoldable pub wheel_text : (page line wheel character : ℕ) → List ℕ
wheel_text page line wheel character =
    if character == 32 then codes " " else printed_text page line wheel character

-- the characters of the wheels of a line, wheel 1 first
unfoldable pub characters_text : (page line : ℕ) → List ℕ → List ℕ
characters_text page line characters =
    flat_map (λ wheel. wheel_text page line wheel (slice_index_or characters (wheel - 1) 0)) (range_with_len 1 (length characters))

-- The word for a cycle that printed a line: of a card cycle the number of its card, which is a link if the card is shown, of a program
-- cycle its level.
abbrev pub total_word : ℕ → List ℕ
total_word level = if level == 4 then codes "final" else codes "total " ++ decimal level

abbrev pub cycle_word : Shown → Cycle → (card : ℕ) → List ℕ
cycle_word shown RunIn card = codes "run-in"
cycle_word shown Card card = card_word shown card
cycle_word shown (Prog level ordinal) card = total_word (level_number level)
cycle_word shown (Head heading) card = codes "head"

-- the word at a place, by the cycles that printed lines; none where none of them did there
abbrev pub word_at : Shown → List FoundLine → (page line : ℕ) → List ℕ
word_at shown [] page line = []
word_at shown (found ∷ others) page line =
    if found.kept.line.page == page && found.kept.line.line == line then cycle_word shown found.kept.cycle found.cards
    else word_at shown others page line

-- a row: its word, its characters up to the last one that is no blank, as an element of its own where a line stands there, and the end of
-- a line
unfoldable pub row_open : (page line : ℕ) → List ℕ
row_open page line = codes "<span id=\"" ++ row_name page line ++ codes "\"><b>"

unfoldable pub word_text : Shown → List FoundLine → (page line : ℕ) → List ℕ
word_text shown found page line = row_open page line ++ word_at shown found page line ++ codes "</b>"

abbrev pub written_row : Shown → List FoundLine → (page line : ℕ) → List ℕ → List ℕ
written_row shown found page line [] = []
written_row shown found page line (first ∷ others) =
    word_text shown found page line ++ characters_text page line (without_trailing_blanks (first ∷ others)) ++ codes "</span>"

unfoldable pub sheet_row : Shown → List PlacedLine → List FoundLine → (page line : ℕ) → List ℕ
sheet_row shown lines found page line = written_row shown found page line (text_at lines page line) ++ codes "\n"

-- the front of a sheet; a reader of HTML drops an end of a line that stands directly behind a `pre`'s tag, which a blank row 1 would be, so
-- an empty element stands between them
abbrev pub sheet_open : ℕ → List ℕ
sheet_open page = codes "<pre id=\"page" ++ decimal page ++ codes "\"><span></span>"

-- a sheet of so many rows
unfoldable pub sheet_text : Shown → List PlacedLine → List FoundLine → (long page : ℕ) → List ℕ
sheet_text shown lines found long page =
    sheet_open page ++ flat_map (sheet_row shown lines found page) (range_with_len 1 long) ++ codes "</pre>\n"

-- the sheets from a page to the last one with a line
unfoldable pub sheets_text : Shown → List PlacedLine → List FoundLine → (long first : ℕ) → List ℕ
sheets_text shown lines found long first =
    flat_map (sheet_text shown lines found long) (range_with_len first (last_page lines - (first - 1)))

-- how many characters the widest line has, up to its last one that is no blank
abbrev pub widest : List PlacedLine → ℕ
widest [] = 0
widest (placed ∷ others) = max (length (without_trailing_blanks placed.text)) (widest others)
