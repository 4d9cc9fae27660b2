-- The pilots: 16 selectors of three positions each. A pickup is sensed at row 11 of the run-in and of card cycles. At
-- the end of such a cycle the pilot is transferred exactly where its pickup was sensed in it, else it is normal, and the
-- pickup is forgotten. Other cycles leave it as it is. While it is normal its normal contacts are closed, else its
-- transferred ones.
use Rattle.std.specs.Prelude.{ℕ, ◌-◌, ◌&&◌, not, Bool, true, false, List, replicate, slice_index_or, if◌then◌else◌}
use Rattle.card_code.specs.declared.row.Row.TheVariants as row
use Rattle.hubs.specs.HubTable.Ranges.{is_within}
use Rattle.hubs.specs.declared.hub.Hub.{Hub}
use Rattle.hubs.specs.declared.hub.Hub.TheVariants.{PIN, PIT, PIX}
use Rattle.net.specs.declared.cycle.Cycle.{Cycle}
use Rattle.net.specs.declared.cycle.Cycle.TheVariants.{RunIn, Card}
use Rattle.net.specs.declared.cycle.Point.{Point}
use Rattle.net.specs.declared.cycle.Point.TheVariants.{Row}
use Rattle.selectors.specs.Numbered.{tests_to}

-- The pilots 1 to 16: whether each is transferred, and whether its pickup was sensed since the last end of a cycle that moves pilots.
pub record PilotStates : Type 0 where
  pub transferred : List Bool
  pub picked_up : List Bool

-- none of the pilots
abbrev pub no_pilots : List Bool
no_pilots = replicate 16 false

-- All pilots start normal.
abbrev pub pilots_at_start : PilotStates
pilots_at_start = record { transferred = no_pilots; picked_up = no_pilots }

-- whether a pilot is transferred; there are no pilots but 1 to 16
abbrev pub is_transferred : PilotStates → ℕ → Bool
is_transferred pilots pilot = is_within pilot 16 && slice_index_or pilots.transferred (pilot - 1) false

-- whether a pilot is normal
abbrev pub is_normal : PilotStates → ℕ → Bool
is_normal pilots pilot = is_within pilot 16 && not (slice_index_or pilots.transferred (pilot - 1) false)

-- The contacts of a pilot's three positions, at all points of all cycles.
abbrev pub pilots_closes : PilotStates → Cycle → Point → Hub → Bool
pilots_closes pilots cycle point (PIN pilot position) = is_normal pilots pilot && is_within position 3
pilots_closes pilots cycle point (PIT pilot position) = is_transferred pilots pilot && is_within position 3
pilots_closes pilots cycle point hub = false

-- the cycles that move pilots
abbrev pub moves_pilots : Cycle → Bool
moves_pilots RunIn = true
moves_pilots Card = true
moves_pilots cycle = false

-- the point at which pickups are sensed
abbrev pub is_pickup_point : Point → Bool
is_pickup_point (Row row.Eleven) = true
is_pickup_point point = false

-- the pilots whose pickups are impulsed
abbrev pub pickups : (Hub → Bool) → List Bool
pickups picture = tests_to 16 (λ pilot. picture (PIX pilot))

-- What they sense.
abbrev pub pilots_sensed : PilotStates → Cycle → Point → (Hub → Bool) → PilotStates
pilots_sensed pilots cycle point picture = record pilots {
  picked_up = if moves_pilots cycle && is_pickup_point point then pickups picture else pilots.picked_up;
}

-- At the end of a cycle that moves pilots each stands as its pickup was sensed, and all pickups are forgotten.
abbrev pub pilots_ended : PilotStates → Cycle → PilotStates
pilots_ended pilots cycle =
    if moves_pilots cycle then record { transferred = pilots.picked_up; picked_up = no_pilots } else pilots

-- their number among the units
abbrev pub pilots_number : PilotStates → ℕ
pilots_number pilots = 39
