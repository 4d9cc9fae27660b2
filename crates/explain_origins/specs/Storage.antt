-- The origin of the text that a storage unit holds.
use Rattle.std.specs.Prelude.{ℕ, ◌==◌, ◌||◌, Bool, false, List, [], ◌∷◌, ◌++◌, Option, Some, None, Vec, codes, decimal, is_some, slice_index_or, if◌then◌else◌}
use Rattle.std.specs.List.{flat_map, range_with_len}
use Rattle.std.specs.declared.alloc.Global.{Global}
use Rattle.card_code.specs.Rows.{row_number}
use Rattle.card_code.specs.declared.row.Row.{Row}
use Rattle.explain_wheels.specs.ExplanationsWords.Explanations.{row_passing}
use Rattle.hubs.specs.declared.hub.Hub.{Hub}
use Rattle.hubs.specs.declared.hub.Hub.TheVariants.{SE, SX}
use Rattle.explain_ledgers.specs.LedgersWords.LedgerText.Names.{cycle_text}
use Rattle.hubs.specs.SetupsWords.Wiring.{Wiring}
use Rattle.explain_origins.specs.Holes.{brush_text, column_text, hole_in_cycle}
use Rattle.explain_origins.specs.declared.changes.PassedCycle.{PassedCycle}
use Rattle.explain_origins.specs.declared.holes.Hole.{Hole}

-- the column of a storage unit whose exit a hub is
abbrev pub column_of_exit : ℕ → Hub → Option ℕ
column_of_exit unit (SX own column) = if own == unit then Some column else None
column_of_exit unit other = None

-- that at whose exit some hubs begin
abbrev pub column_of_hubs : ℕ → List Hub → Option ℕ
column_of_hubs unit [] = None
column_of_hubs unit (hub ∷ hubs) = column_of_exit unit hub

-- that at whose exit a way begins, if there is one
abbrev pub column_of_way : ℕ → Option (Vec Hub Global) → Option ℕ
column_of_way unit None = None
column_of_way unit (Some way) = column_of_hubs unit way.items

-- one of some ways begins at an exit of a storage unit
abbrev pub is_read : ℕ → List (Option (Vec Hub Global)) → Bool
is_read unit [] = false
is_read unit (way ∷ ways) = is_some (column_of_way unit way) || is_read unit ways

-- an entry of a storage unit
abbrev pub entry_text : ℕ → ℕ → List ℕ
entry_text unit column = codes "SE." ++ decimal unit ++ codes "." ++ decimal column

-- what led to an entry, and which hole that was; or that no wire from a hole does
abbrev pub led_text : Option Hole → ℕ → (entry : List ℕ) → List ℕ
led_text None card entry = entry ++ codes ", by no wire straight from a card"
led_text (Some hole) card entry = brush_text hole ++ codes " -> " ++ entry ++ column_text hole card

-- the line of a row that a column of the unit took in
abbrev pub row_label : Row → List ℕ
row_label row = codes "  row " ++ decimal (row_number row) ++ codes ": "

abbrev pub storage_line : Wiring → List (List ℕ) → PassedCycle → (unit : ℕ) → Row → (column : ℕ) → List ℕ
storage_line wiring cards since unit row column =
    row_label row
    ++ led_text (hole_in_cycle wiring cards since.cycle since.card row (SE unit column)) since.card (entry_text unit column) ++ codes "\n"

-- it stands only if a way at the row begins at an exit of the unit
abbrev pub column_line : Wiring → List (List ℕ) → PassedCycle → (unit : ℕ) → Row → Option ℕ → List ℕ
column_line wiring cards since unit row None = []
column_line wiring cards since unit row (Some column) = storage_line wiring cards since unit row column

-- the line of the row of a place in the order of the points, by the ways at the rows
abbrev pub line_at : Wiring → List (List ℕ) → PassedCycle → (unit : ℕ) → List (Option (Vec Hub Global)) → ℕ → List ℕ
line_at wiring cards since unit ways place =
    column_line wiring cards since unit (row_passing place) (column_of_way unit (slice_index_or ways place None))

-- the lines of all rows
unfoldable pub lines_of : Wiring → List (List ℕ) → PassedCycle → (unit : ℕ) → List (Option (Vec Hub Global)) → List ℕ
lines_of wiring cards since unit ways = flat_map (line_at wiring cards since unit ways) (range_with_len 0 12)

-- since which cycle a unit holds its text
abbrev pub since_line : ℕ → PassedCycle → List ℕ
since_line unit since = codes "storage " ++ decimal unit ++ codes " since " ++ cycle_text since.cycle since.card ++ codes "\n"

-- what is told of a unit of which ways begin, by the last cycle that changed its text
abbrev pub storage_text : Wiring → List (List ℕ) → (unit : ℕ) → List (Option (Vec Hub Global)) → Option PassedCycle → List ℕ
storage_text wiring cards unit ways None = []
storage_text wiring cards unit ways (Some since) = since_line unit since ++ lines_of wiring cards since unit ways
