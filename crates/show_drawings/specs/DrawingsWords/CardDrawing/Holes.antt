-- Which holes a card has: those of its columns, each from the upper edge down.
use Rattle.std.specs.Prelude.{◌≡◌, ℕ, ◌+◌, ◌-◌, ◌≤◌, List, [], ◌∷◌, ◌++◌, if◌then◌else◌, length, slice_index_or, true}
use Rattle.std.specs.List.{flat_map}
use Rattle.card_code.specs.CardCode.{has_row}
use Rattle.card_code.specs.Rows.{row_number}
use Rattle.card_code.specs.declared.row.Row.{Row}
use Rattle.card_code.specs.declared.row.Row.TheVariants.{Zero, One, Two, Three, Four, Five, Six, Seven, Eight, Nine, Eleven, Twelve}

-- a hole: its column, from 1, and its row
pub record Hole : Type 0 where
  pub column : ℕ
  pub row : Row

-- the rows from the upper edge of a card down
abbrev pub rows_down : List Row
rows_down = Twelve ∷ Eleven ∷ Zero ∷ One ∷ Two ∷ Three ∷ Four ∷ Five ∷ Six ∷ Seven ∷ Eight ∷ Nine ∷ []

-- the hole of a column in a row, where it is punched there
abbrev pub hole_in : (column punched : ℕ) → Row → List Hole
hole_in column punched row = if has_row punched (row_number row) then record { column = column; row = row } ∷ [] else []

-- the holes of columns, of which the first has this number
abbrev pub holes_from : (column : ℕ) → List ℕ → List Hole
holes_from column [] = []
holes_from column (punched ∷ others) = flat_map (hole_in column punched) rows_down ++ holes_from (column + 1) others

-- the holes of a card, by its columns
abbrev pub holes_of : List ℕ → List Hole
holes_of columns = holes_from 1 columns

-- a card is punched at a hole
pub record IsPunched (columns : List ℕ) (hole : Hole) : Type 0 where
  pub from : 1 ≤ hole.column
  pub to : hole.column ≤ length columns
  pub punched : has_row (slice_index_or columns (hole.column - 1) 0) (row_number hole.row) ≡ true
