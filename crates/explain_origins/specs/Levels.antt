-- Why the program cycles of a level run: the card was the last one, or it and the next one differ in columns that are compared.
use Rattle.std.specs.Prelude.{ℕ, zero, suc, ◌+◌, ◌==◌, ◌&&◌, ◌||◌, nat_le, not, Bool, false, List, [], ◌++◌, Option, Some, None, codes, decimal, length, if◌then◌else◌}
use Rattle.std.specs.List.{flat_map}
use Rattle.card_code.specs.Rows.{row_number, rows}
use Rattle.card_code.specs.declared.row.Row.{Row}
use Rattle.hubs.specs.Hubs.{number_of}
use Rattle.hubs.specs.declared.hub.Hub.{Hub}
use Rattle.hubs.specs.declared.hub.Hub.TheVariants.{CA, CB, CX, ST}
use Rattle.net.specs.Cycles.{level_number}
use Rattle.net.specs.declared.cycle.Cycle.{Cycle}
use Rattle.net.specs.declared.cycle.Cycle.TheVariants.{RunIn, Card, Prog, Head}
use Rattle.hubs.specs.SetupsWords.Wiring.{Wiring, is_listed, is_wired, row_at}
use Rattle.explain_origins.specs.Holes.{brush_text, column_text, first_of, hole_to}
use Rattle.explain_origins.specs.Storage.{row_label}
use Rattle.explain_origins.specs.declared.holes.Hole.{Hole}

-- a wire from a comparing position calls a level, this one or a higher one
abbrev pub calls : Wiring → (position from level : ℕ) → Bool
calls wiring position from level = nat_le from level && is_wired wiring (CX position) (ST level)

-- the lowest of so many levels that it calls
abbrev pub called_to : Wiring → (position from : ℕ) → ℕ → Option ℕ
called_to wiring position from zero = None
called_to wiring position from (suc level) =
    first_of (called_to wiring position from level) (if calls wiring position from (suc level) then Some (suc level) else None)

-- a wire leads to an entry from the exit with a number
abbrev pub is_led_from : Wiring → Hub → (number : ℕ) → Bool
is_led_from wiring entry number = is_listed (row_at wiring (Some number)) (number_of entry)

-- from one of so many exits behind the brushes, which have the numbers 1 to 160
unfoldable pub others_lead : Wiring → Hub → (count : ℕ) → Bool
others_lead wiring entry zero = false
others_lead wiring entry (suc count) = is_led_from wiring entry (161 + count) || others_lead wiring entry count

-- wires lead to an entry from brushes alone: the exits have the numbers 1 to 1040
unfoldable pub is_of_brushes : Wiring → Hub → Bool
is_of_brushes wiring entry = not (others_lead wiring entry 880)

-- The lowest level that a comparing position calls, if wires lead to both of its entries from brushes alone. What else comes to them, no
-- hole tells.
abbrev pub called_by_holes : Wiring → (position from : ℕ) → Option ℕ
called_by_holes wiring position from =
    if is_of_brushes wiring (CA position) && is_of_brushes wiring (CB position) then called_to wiring position from 3 else None

-- no hole in a row leads to an entry of a comparing position
abbrev pub no_row : Row → List ℕ
no_row row = codes ", and no row " ++ decimal (row_number row) ++ codes " to "

abbrev pub missing_text : (position : ℕ) → Row → (entry : List ℕ) → List ℕ
missing_text position row entry = no_row row ++ entry ++ decimal position ++ codes "\n"

-- a hole in a row of which a wire leads to one entry of a comparing position, while no hole in that row leads to the other entry
abbrev pub unlike_text : Hole → (card position : ℕ) → Row → (entry other : List ℕ) → List ℕ
unlike_text hole card position row entry other =
    brush_text hole ++ codes " -> " ++ entry ++ decimal position ++ column_text hole card ++ missing_text position row other

-- the line of a row at a comparing position, by the holes of which wires lead to its entries: none if both or neither is reached
abbrev pub unlike_line : Option Hole → Option Hole → (card position : ℕ) → Row → List ℕ
unlike_line None None card position row = []
unlike_line (Some one) None card position row = row_label row ++ unlike_text one card position row (codes "CA.") (codes "CB.")
unlike_line None (Some other) card position row = row_label row ++ unlike_text other card position row (codes "CB.") (codes "CA.")
unlike_line (Some one) (Some other) card position row = []

abbrev pub unlike_at : Wiring → List (List ℕ) → (card position : ℕ) → Row → List ℕ
unlike_at wiring cards card position row =
    unlike_line (hole_to wiring cards card row (CA position)) (hole_to wiring cards card row (CB position)) card position row

-- the lines of some rows
abbrev pub unlike_lines : Wiring → List (List ℕ) → (card position : ℕ) → List Row → List ℕ
unlike_lines wiring cards card position of_rows = flat_map (unlike_at wiring cards card position) of_rows

-- a card cycle
abbrev pub card_text : ℕ → List ℕ
card_text card = codes "Card " ++ decimal card

-- which level runs by which card
abbrev pub runs_text : (level card : ℕ) → List ℕ
runs_text level card = codes "Prog " ++ decimal level ++ codes " runs by " ++ card_text card

-- the wire of a comparing position that calls a level
abbrev pub calling_text : (position called : ℕ) → List ℕ
calling_text position called = codes ": CX." ++ decimal position ++ codes " -> ST." ++ decimal called ++ codes "\n"

-- what is told of a position that calls a level, by its lines: nothing if there are none
abbrev pub called_text : (level card position called : ℕ) → List ℕ → List ℕ
called_text level card position called lines =
    if length lines == 0 then [] else runs_text level card ++ calling_text position called ++ lines

-- what is told of a position: nothing if it calls no level that is high enough, or if not holes alone tell it
abbrev pub position_text_by : (level card position : ℕ) → Option ℕ → List ℕ → List ℕ
position_text_by level card position None lines = []
position_text_by level card position (Some called) lines = called_text level card position called lines

unfoldable pub position_text : Wiring → List (List ℕ) → (card level position : ℕ) → List ℕ
position_text wiring cards card level position =
    position_text_by level card position (called_by_holes wiring position level) (unlike_lines wiring cards card position rows)

-- the first text that isn't empty
abbrev pub or_text : List ℕ → List ℕ → List ℕ
or_text one other = if length one == 0 then other else one

-- what is told of the lowest of so many positions of which something is
unfoldable pub positions_text : Wiring → List (List ℕ) → (card level : ℕ) → ℕ → List ℕ
positions_text wiring cards card level zero = []
positions_text wiring cards card level (suc position) =
    or_text (positions_text wiring cards card level position) (position_text wiring cards card level (suc position))

-- the last card calls all levels
abbrev pub last_text : (level card : ℕ) → List ℕ
last_text level card = runs_text level card ++ codes ", the last one\n"

-- why the program cycles of a level run behind a card; nothing if no wire from a hole tells
abbrev pub level_text : Wiring → List (List ℕ) → (card level : ℕ) → List ℕ
level_text wiring cards card level =
    if card == length cards then last_text level card else positions_text wiring cards card level 30

-- only program cycles are called
abbrev pub called_by : Wiring → List (List ℕ) → (card : ℕ) → Cycle → List ℕ
called_by wiring cards card RunIn = []
called_by wiring cards card Card = []
called_by wiring cards card (Prog level ordinal) = level_text wiring cards card (level_number level)
called_by wiring cards card (Head heading) = []
