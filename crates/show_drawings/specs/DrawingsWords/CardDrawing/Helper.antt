-- Helper words of the code: the holes of a card as text, column by column.
use Rattle.std.specs.Prelude.{ℕ, List, [], if◌then◌else◌}
use Rattle.std.specs.List.{flat_map}
use Rattle.card_code.specs.CardCode.{has_row}
use Rattle.card_code.specs.Rows.{row_number}
use Rattle.card_code.specs.declared.row.Row.{Row}
use Rattle.show_drawings.specs.DrawingsWords.CardDrawing.Drawings.{hole_text}
use Rattle.show_drawings.specs.DrawingsWords.CardDrawing.Holes.{rows_down}

-- a row of a column, and all its rows
abbrev pub row_text : (column punched : ℕ) → Row → List ℕ
row_text column punched row =
    if has_row punched (row_number row) then hole_text (record { column = column; row = row }) else []

abbrev pub column_text : (column punched : ℕ) → List ℕ
column_text column punched = flat_map (row_text column punched) rows_down
