-- A line at its place.
use Rattle.std.specs.Prelude.{ℕ, List, [], ◌∷◌, Option, Some, None}
use Rattle.page_text.specs.declared.placed_lines.placed_line.PlacedLine.{PlacedLine}

-- a line at a page and a line of it, if there is such a place
abbrev pub line_at : Option (ℕ × ℕ) → List ℕ → List PlacedLine
line_at None text = []
line_at (Some place) text = record { page = place.0; line = place.1; text = text } ∷ []
