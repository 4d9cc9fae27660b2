-- Whether two storage units hold the same text.
use Rattle.std.specs.Prelude.{ℕ, zero, suc, ◌&&◌, Bool, true, List, [], ◌∷◌}
use Rattle.card_code.specs.Rows.{rows}
use Rattle.card_code.specs.declared.row.Row.{Row}
use Rattle.explain_ledgers.specs.LedgersWords.Entries.{same}
use Rattle.storage_units.specs.Storage.{StorageState, holds}

-- both hold a row in a column, or neither does
abbrev pub hold_same_at : StorageState → StorageState → Row → ℕ → Bool
hold_same_at one other row column = same (holds one row column) (holds other row column)

-- so it is in so many of the first columns
unfoldable pub hold_same_to : StorageState → StorageState → Row → ℕ → Bool
hold_same_to one other row zero = true
hold_same_to one other row (suc column) = hold_same_to one other row column && hold_same_at one other row (suc column)

-- so it is with some rows, in all sixteen columns
abbrev pub hold_same_rows : StorageState → StorageState → List Row → Bool
hold_same_rows one other [] = true
hold_same_rows one other (row ∷ others) = hold_same_to one other row 16 && hold_same_rows one other others

-- and with all rows
unfoldable pub hold_same : StorageState → StorageState → Bool
hold_same one other = hold_same_rows one other rows
