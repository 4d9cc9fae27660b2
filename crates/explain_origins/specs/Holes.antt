-- Holes of the cards in the machine from which a wire leads to an entry.
use Rattle.std.specs.Prelude.{ℕ, zero, suc, ◌+◌, ◌-◌, ◌&&◌, Bool, List, ◌++◌, Option, Some, None, codes, decimal, slice_get, if◌then◌else◌}
use Rattle.card_code.specs.declared.row.Row.{Row}
use Rattle.hubs.specs.declared.hub.Hub.{Hub}
use Rattle.hubs.specs.declared.hub.Hub.TheVariants.{FR, SR}
use Rattle.net.specs.declared.cycle.Cycle.{Cycle}
use Rattle.net.specs.declared.cycle.Cycle.TheVariants.{RunIn, Card, Prog, Head}
use Rattle.hubs.specs.SetupsWords.Wiring.{Wiring, is_wired}
use Rattle.stations.specs.Punches.{is_punched_at}
use Rattle.explain_origins.specs.declared.holes.Hole.{Hole}
use Rattle.explain_origins.specs.declared.holes.Station.{Station}
use Rattle.explain_origins.specs.declared.holes.Station.TheVariants.{First, Second}

-- the brush of a column at a station
abbrev pub brush : Station → ℕ → Hub
brush First column = FR column
brush Second column = SR column

-- a card has a hole in a row of a column, and from its brush at a station a wire leads to an entry
abbrev pub leads_to : Wiring → Option (List ℕ) → Station → Row → Hub → ℕ → Bool
leads_to wiring card station row entry column = is_punched_at card row column && is_wired wiring (brush station column) entry

-- the first one, if there is one, else the other
abbrev pub first_of : {X : Type 0} → Option X → Option X → Option X
first_of (Some one) other = Some one
first_of None other = other

-- the lowest of so many columns that has such a hole
abbrev pub column_to : Wiring → Option (List ℕ) → Station → Row → Hub → ℕ → Option ℕ
column_to wiring card station row entry zero = None
column_to wiring card station row entry (suc column) =
    first_of (column_to wiring card station row entry column)
    (if leads_to wiring card station row entry (suc column) then Some (suc column) else None)

-- a hole in a column at a station
abbrev pub hole_in : Station → Option ℕ → Option Hole
hole_in station None = None
hole_in station (Some column) = Some (record { station = station; column = column })

-- the lowest of all columns
abbrev pub hole_at : Wiring → Option (List ℕ) → Station → Row → Hub → Option Hole
hole_at wiring card station row entry = hole_in station (column_to wiring card station row entry 80)

-- A hole in a row of which a wire leads to an entry while a card is read: of this card, which is at second reading, or of the next one,
-- which is at first reading.
abbrev pub hole_to : Wiring → List (List ℕ) → (card : ℕ) → Row → Hub → Option Hole
hole_to wiring cards card row entry =
    first_of (hole_at wiring (slice_get cards (card - 1)) Second row entry) (hole_at wiring (slice_get cards card) First row entry)

-- In other cycles no card is read: in the run-in the first card stands at first reading, and program and heading cycles read none.
abbrev pub hole_in_cycle : Wiring → List (List ℕ) → Cycle → (card : ℕ) → Row → Hub → Option Hole
hole_in_cycle wiring cards RunIn card row entry = hole_at wiring (slice_get cards card) First row entry
hole_in_cycle wiring cards Card card row entry = hole_to wiring cards card row entry
hole_in_cycle wiring cards (Prog level ordinal) card row entry = None
hole_in_cycle wiring cards (Head heading) card row entry = None

-- the brush of a hole
abbrev pub brush_letters : Station → List ℕ
brush_letters First = codes "FR."
brush_letters Second = codes "SR."

abbrev pub brush_text : Hole → List ℕ
brush_text hole = brush_letters hole.station ++ decimal hole.column

-- the number of the card at a station while a card is read
abbrev pub card_at : Station → ℕ → ℕ
card_at First card = card + 1
card_at Second card = card

-- the column of a hole, and its card
abbrev pub column_text : Hole → ℕ → List ℕ
column_text hole card =
    codes " (column " ++ decimal hole.column ++ codes " of card " ++ decimal (card_at hole.station card) ++ codes ")"
