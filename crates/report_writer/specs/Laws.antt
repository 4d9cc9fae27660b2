-- Laws of what is written so far of pages.
use Rattle.std.specs.Prelude.{◌≡◌, ℕ, List, [], ◌∷◌, ◌++◌}
use Rattle.std.specs.Io.{StartsWith}
use Rattle.page_text.specs.Pages.{Pages}
use Rattle.report_writer.specs.Added.{added, added_all, last_end, line_after, page_after}
use Rattle.report_writer.specs.Open.{Open}
use Rattle.page_text.specs.declared.placed_lines.placed_line.PlacedLine.{PlacedLine}
use Rattle.page_text.specs.PlacedLines.InOrder.{FollowInOrder, IsInOrder}

-- It grows by what a line adds at the place of the line before it; before any line that is page 1, after none of its lines.
abbrev pub OpenGrows : Type 0
OpenGrows =
    (form_lines : ℕ) (lines : List PlacedLine) (placed : PlacedLine) → IsInOrder form_lines (lines ++ placed ∷ [])
    → Open (lines ++ placed ∷ []) form_lines ≡ Open lines form_lines ++ added form_lines (page_after 1 lines) (line_after 0 lines) placed

-- So it does by more lines.
abbrev pub OpenGrowsByAll : Type 0
OpenGrowsByAll =
    (form_lines : ℕ) (lines others : List PlacedLine) → IsInOrder form_lines (lines ++ others)
    → Open (lines ++ others) form_lines ≡ Open lines form_lines ++ added_all form_lines (page_after 1 lines) (line_after 0 lines) others

-- The pages of lines begin with what is written of the first of them.
abbrev pub PagesBegin : Type 0
PagesBegin =
    (form_lines : ℕ) (lines others : List PlacedLine) → IsInOrder form_lines (lines ++ others)
    → StartsWith (Pages (lines ++ others) form_lines) (Open lines form_lines)

-- The pages of lines end with the end of the last page.
abbrev pub PagesEnd : Type 0
PagesEnd =
    (form_lines : ℕ) (lines : List PlacedLine) → IsInOrder form_lines lines
    → Pages lines form_lines ≡ Open lines form_lines ++ last_end form_lines (line_after 0 lines)

-- Lines in order go on in order from where the first of them end.
abbrev pub OrderGoesOn : Type 0
OrderGoesOn =
    (form_lines : ℕ) (lines others : List PlacedLine) → IsInOrder form_lines (lines ++ others)
    → IsInOrder form_lines lines × FollowInOrder form_lines (page_after 1 lines) (line_after 0 lines) others
