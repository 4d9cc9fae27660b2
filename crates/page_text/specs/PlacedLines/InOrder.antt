-- Placed lines are in order: each stands on a later page than the one before it, or further down the same page.
use Rattle.std.specs.Prelude.{◌≡◌, ℕ, ◌^◌, ◌<◌, ◌≤◌, ◌⊎◌, List, [], ◌∷◌}
use Rattle.page_text.specs.declared.placed_lines.placed_line.PlacedLine.{PlacedLine}

-- the second place, a page and a line, comes after the first
abbrev pub IsAfter : ℕ → ℕ → ℕ → ℕ → Type 0
IsAfter page line later_page later_line = (page < later_page) ⊎ ((page ≡ later_page) × (line < later_line))

-- a line's place is one of pages 1 to 2^32 and of the form's lines
pub record IsOnForm (form_lines : ℕ) (placed : PlacedLine) : Type 0 where
  pub page_from : 1 ≤ placed.page
  pub page_to : placed.page ≤ 2 ^ 32
  pub line_from : 1 ≤ placed.line
  pub line_to : placed.line ≤ form_lines

-- lines in order, all of them after a place
abbrev pub FollowInOrder : ℕ → ℕ → ℕ → List PlacedLine → Type 0
FollowInOrder form_lines page line [] = Unit {0}
FollowInOrder form_lines page line (placed ∷ others) =
    IsAfter page line placed.page placed.line
    × IsOnForm form_lines placed
    × FollowInOrder form_lines placed.page placed.line others

-- lines in order on forms of so many lines
abbrev pub IsInOrder : ℕ → List PlacedLine → Type 0
IsInOrder form_lines lines = FollowInOrder form_lines 0 0 lines
