-- Columns as they are kept: their rows by the places at which they pass the brushes, and not by their numbers.
use Rattle.std.specs.Prelude.{◌≡◌, ℕ, ◌<◌, ◌==◌, List, [], ◌∷◌, Bool, true, if◌then◌else◌}
use Rattle.std.proofs.Common.{arith, refl}
use Rattle.std.proofs.lemmas.Bool.Decides.{nat_tests}
use Rattle.card_code.specs.AllSets.{passes_all, passes-at}
use Rattle.card_code.specs.CardCode.{has_row, with_row}
use Rattle.card_code.specs.Rows.{passing_place, row_number, rows}
use Rattle.card_code.specs.declared.row.Row.{Row}

-- the set of those of some rows that another set has: `from` tells a row's bit there, `to` its bit here
abbrev pub moved : List Row → (Row → ℕ) → (Row → ℕ) → ℕ → ℕ
moved [] from to set = 0
moved (row ∷ others) from to set =
    if has_row set (from row) then with_row (moved others from to set) (to row) else moved others from to set

-- the column whose rows have these places
unfoldable pub column_of : ℕ → ℕ
column_of set = moved rows passing_place row_number set

-- the places of the rows of a column
unfoldable pub set_of_column : ℕ → ℕ
set_of_column column = moved rows row_number passing_place column

-- whether the places of a set's column are the set
is_kept : ℕ → Bool
is_kept set = set_of_column (column_of set) == set

all_kept : passes_all 12 is_kept ≡ true
unfolding is_kept passes_all column_of set_of_column
all_kept = refl

-- the places of a column's rows tell the column
pub set-again : (set : ℕ) → set < 4096 → set_of_column (column_of set) ≡ set
unfolding is_kept
set-again set small = let kept = passes-at 12 is_kept set all_kept small in grind (arith, nat_tests, kept)
