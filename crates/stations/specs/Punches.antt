-- The punches of a card: whether a row is punched in a column, and a card as one word for each of its rows.
use Rattle.std.specs.Prelude.{◌≡◌, ℕ, ◌+◌, ◌-◌, ◌&&◌, Bool, false, List, length, Option, Some, None, slice_index}
use Rattle.card_code.specs.CardCode.{has_row}
use Rattle.card_code.specs.Rows.{row_number, passing_place}
use Rattle.card_code.specs.declared.row.Row.{Row}
use Rattle.hubs.specs.HubTable.Ranges.{is_within}
use Rattle.net.specs.HubSets.{is_bit}
use Rattle.net.specs.HubRows.{has_at}

-- whether the card has the row in the column, 1 to 80
abbrev pub is_punched : List ℕ → Row → ℕ → Bool
is_punched card row column = is_within column 80 && has_row (slice_index card (column - 1)) (row_number row)

-- the same of the card at a station, where there may be none
abbrev pub is_punched_at : Option (List ℕ) → Row → ℕ → Bool
is_punched_at None row column = false
is_punched_at (Some card) row column = is_punched card row column

-- The word of a row has the bit c - 1 exactly where the row is punched in column c, and no bit without a card.
abbrev pub IsRowAt : Option (List ℕ) → Row → ℕ → Type 0
IsRowAt card row word = (bit : ℕ) → is_bit word bit ≡ is_punched_at card row (bit + 1)

-- Twelve words, one for each row in the order of the points.
pub record AreRowsAt (card : Option (List ℕ)) (words : List ℕ) : Type 0 where
  pub twelve : length words ≡ 12
  pub punched : (row : Row) → IsRowAt card row (slice_index words (passing_place row))

-- Sets of rows, one for each column: a set has the bit p exactly where the row at place p among the points is punched in its column, and
-- there is no bit without a card.
abbrev pub AreColumnsAt : Option (List ℕ) → List ℕ → Type 0
AreColumnsAt card columns = (row : Row) (k : ℕ) → has_at columns k (passing_place row) ≡ is_punched_at card row (k + 1)
