-- A walk over the places of pages beside a list of lines: at each place the first line that is left is taken where it
-- stands there. These are helper words of the code that writes pages in one pass.
use Rattle.std.specs.Prelude.{ℕ, zero, suc, ◌==◌, ◌&&◌, List, [], ◌∷◌, ◌++◌, if◌then◌else◌}
use Rattle.page_text.specs.declared.placed_lines.placed_line.PlacedLine.{PlacedLine}
use Rattle.page_text.specs.Pages.{without_trailing_blanks}

-- the text of the first line, where it stands at the place
abbrev pub first_text : List PlacedLine → (page line : ℕ) → List ℕ
first_text [] page line = []
first_text (placed ∷ others) page line = if placed.page == page && placed.line == line then placed.text else []

-- the lines that are left after the place
abbrev pub rest_after : List PlacedLine → (page line : ℕ) → List PlacedLine
rest_after [] page line = []
rest_after (placed ∷ others) page line = if placed.page == page && placed.line == line then others else placed ∷ others

-- the lines that are left after so many lines of a page
unfoldable pub rest_after_lines : List PlacedLine → (page lines : ℕ) → List PlacedLine
rest_after_lines left page zero = left
rest_after_lines left page (suc n) = rest_after (rest_after_lines left page n) page (suc n)

-- the bytes of so many lines of a page
unfoldable pub walked_lines : List PlacedLine → (page lines : ℕ) → List ℕ
walked_lines left page zero = []
walked_lines left page (suc n) =
    walked_lines left page n ++ (without_trailing_blanks (first_text (rest_after_lines left page n) page (suc n)) ++ 10 ∷ [])

-- the lines that are left after so many pages
unfoldable pub rest_after_pages : List PlacedLine → (long pages : ℕ) → List PlacedLine
rest_after_pages left long zero = left
rest_after_pages left long (suc n) = rest_after_lines (rest_after_pages left long n) (suc n) long

-- the bytes of so many pages
unfoldable pub walked_pages : List PlacedLine → (long pages : ℕ) → List ℕ
walked_pages left long zero = []
walked_pages left long (suc n) =
    walked_pages left long n ++ (walked_lines (rest_after_pages left long n) (suc n) long ++ 12 ∷ [])
