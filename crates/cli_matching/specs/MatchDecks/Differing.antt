-- The first line in which two lists of printed lines differ.
use Rattle.std.specs.Prelude.{◌≡◌, ◌≢◌, ℕ, ◌==◌, ◌&&◌, ◌||◌, nat_le, nat_lt, List, [], ◌∷◌, take, drop, if◌then◌else◌}
use Rattle.cli_matching.specs.declared.match_decks.lines.LinePlace.{LinePlace}
use Rattle.page_text.specs.declared.placed_lines.placed_line.PlacedLine.{PlacedLine}

-- the place of a line
abbrev pub place_of : PlacedLine → LinePlace
place_of placed = record { page = placed.page; line = placed.line }

-- the lower of the places of two lines: by page, then by line
abbrev pub lower_place : PlacedLine → PlacedLine → LinePlace
lower_place one other =
    if nat_lt one.page other.page || ((one.page == other.page) && nat_le one.line other.line) then place_of one
    else place_of other

-- two lists differ in their first lines, at a place: that of the line that only one has, or the lower one of two
abbrev pub StartApart : List PlacedLine → List PlacedLine → LinePlace → Type 0
StartApart [] [] place = ⊥
StartApart (one ∷ ones) [] place = place ≡ place_of one
StartApart [] (other ∷ others) place = place ≡ place_of other
StartApart (one ∷ ones) (other ∷ others) place = (one ≢ other) × (place ≡ lower_place one other)

-- two lists are the same for so many lines, and then they differ
pub record IsFirstDifference (one other : List PlacedLine) (place : LinePlace) : Type 0 where
  pub front : ℕ
  pub same : take front one ≡ take front other
  pub apart : StartApart (drop front one) (drop front other) place
