-- The bytes of pages. Each page from page 1 to the last one with a line has the same number of lines.
-- A line is its text without the blanks at its end, and LF; a form feed follows each page.
use Rattle.std.specs.Prelude.{ℕ, ◌==◌, ◌&&◌, List, [], ◌∷◌, ◌++◌, max, if◌then◌else◌}
use Rattle.std.specs.List.{range_with_len, flat_map}
use Rattle.page_text.specs.declared.placed_lines.placed_line.PlacedLine.{PlacedLine}

-- a character put before a cut text; a blank before nothing is cut as well
abbrev pub onto_cut : ℕ → List ℕ → List ℕ
onto_cut character [] = if character == 32 then [] else character ∷ []
onto_cut character (next ∷ others) = character ∷ next ∷ others

-- a text without the blanks at its end
abbrev pub without_trailing_blanks : List ℕ → List ℕ
without_trailing_blanks [] = []
without_trailing_blanks (character ∷ characters) = onto_cut character (without_trailing_blanks characters)

-- the text that stands at a place, and nothing where no line stands there
abbrev pub text_at : List PlacedLine → (page line : ℕ) → List ℕ
text_at [] page line = []
text_at (placed ∷ others) page line =
    if placed.page == page && placed.line == line then placed.text else text_at others page line

-- the bytes of the line at a place
abbrev pub line_bytes : List PlacedLine → (page line : ℕ) → List ℕ
line_bytes placed page line = without_trailing_blanks (text_at placed page line) ++ 10 ∷ []

-- the bytes of a page of so many lines
abbrev pub page_bytes : List PlacedLine → (long page : ℕ) → List ℕ
page_bytes placed long page = flat_map (line_bytes placed page) (range_with_len 1 long) ++ 12 ∷ []

-- the last page that has a line, and 0 without lines
abbrev pub last_page : List PlacedLine → ℕ
last_page [] = 0
last_page (placed ∷ others) = max placed.page (last_page others)

-- the bytes of all pages of so many lines, from page 1 to the last
unfoldable pub Pages : List PlacedLine → (long : ℕ) → List ℕ
Pages placed long = flat_map (page_bytes placed long) (range_with_len 1 (last_page placed))
