-- Rulers: the tens above, which end on their column, and the units below, so that what stands under them is counted at sight.
use Rattle.std.specs.Prelude.{ℕ, List}
use Rattle.cli_sheets.specs.declared.wording.TheConstants as wording

-- the 80 columns of a card
unfoldable pub column_ruler : List ℕ
column_ruler =
    wording.COLUMN_RULER.now

-- the 120 wheels
unfoldable pub wheel_ruler : List ℕ
wheel_ruler =
    wording.WHEEL_RULER.now
