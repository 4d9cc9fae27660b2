-- What a line adds to the pages that are written up to a place.
use Rattle.std.specs.Prelude.{ℕ, zero, suc, ◌+◌, ◌-◌, ◌==◌, List, [], ◌∷◌, ◌++◌, replicate, if◌then◌else◌}
use Rattle.page_text.specs.Pages.{without_trailing_blanks}
use Rattle.page_text.specs.declared.placed_lines.placed_line.PlacedLine.{PlacedLine}

-- what ends a page of which so many lines are written: its other lines, blank, and a form feed
abbrev pub page_end : (form_lines lines : ℕ) → List ℕ
page_end form_lines lines = replicate (form_lines - lines) 10 ++ 12 ∷ []

-- so many blank pages
abbrev pub blank_pages : (form_lines pages : ℕ) → List ℕ
blank_pages form_lines zero = []
blank_pages form_lines (suc pages) = page_end form_lines 0 ++ blank_pages form_lines pages

-- the blank lines and the form feeds from so many lines of a page on to so many of the same page or a later one
unfoldable pub feeds : (form_lines page lines later_page later_lines : ℕ) → List ℕ
feeds form_lines page lines later_page later_lines =
    if page == later_page
    then replicate (later_lines - lines) 10
    else page_end form_lines lines ++ (blank_pages form_lines (later_page - (page + 1)) ++ replicate later_lines 10)

-- what a line adds: all up to its place, its text without the blanks at its end, and LF
abbrev pub added : (form_lines page line : ℕ) → PlacedLine → List ℕ
added form_lines page line placed =
    feeds form_lines page line placed.page (placed.line - 1) ++ (without_trailing_blanks placed.text ++ 10 ∷ [])

-- what lines add, one after another
abbrev pub added_all : (form_lines page line : ℕ) → List PlacedLine → List ℕ
added_all form_lines page line [] = []
added_all form_lines page line (placed ∷ others) =
    added form_lines page line placed ++ added_all form_lines placed.page placed.line others

-- what ends the last page, if a line of it is written
abbrev pub last_end : (form_lines line : ℕ) → List ℕ
last_end form_lines line = if line == 0 then [] else page_end form_lines line

-- the page of the last of some lines, and the page before them where there are none
abbrev pub page_after : ℕ → List PlacedLine → ℕ
page_after page [] = page
page_after page (placed ∷ others) = page_after placed.page others

-- its line on that page
abbrev pub line_after : ℕ → List PlacedLine → ℕ
line_after line [] = line
line_after line (placed ∷ others) = line_after placed.line others
