-- The reading stations: a card stands at first reading, and the card before it at second reading. At the point of a row
-- a station emits the columns that are punched there: first reading in the run-in and in card cycles, second reading in
-- card cycles alone.
use Rattle.std.specs.Prelude.{◌≡◌, ℕ, Bool, false, ◌||◌, List, [], length, Option, None, slice_index_or}
use Rattle.card_code.specs.declared.row.Row.{Row as CardRow}
use Rattle.hubs.specs.declared.hub.Hub.{Hub}
use Rattle.hubs.specs.declared.hub.Hub.TheVariants.{FR, SR}
use Rattle.net.specs.declared.cycle.Cycle.{Cycle}
use Rattle.net.specs.declared.cycle.Cycle.TheVariants.{RunIn, Card}
use Rattle.net.specs.declared.cycle.Point.{Point}
use Rattle.net.specs.declared.cycle.Point.TheVariants.{Row}
use Rattle.stations.specs.Punches.{is_punched_at, AreRowsAt}

-- the cards that stand at the stations, where any stand there
pub record StationCards : Type 0 where
  pub first : Option (List ℕ)
  pub second : Option (List ℕ)

-- at the start no card stands in the machine
abbrev pub stations_at_start : StationCards
stations_at_start = record { first = None; second = None }

-- the cards move on by one: the next card, where there is one, comes to first reading
abbrev pub loaded : Option (List ℕ) → StationCards → StationCards
loaded next cards = record { first = next; second = cards.first }

-- the exits of first reading that the card there emits at the point of a row
abbrev pub first_emits : Option (List ℕ) → CardRow → Hub → Bool
first_emits card row (FR column) = is_punched_at card row column
first_emits card row other = false

-- the exits of second reading that the card there emits at the point of a row
abbrev pub second_emits : Option (List ℕ) → CardRow → Hub → Bool
second_emits card row (SR column) = is_punched_at card row column
second_emits card row other = false

-- what the stations emit
abbrev pub stations_emits : StationCards → Cycle → Point → Hub → Bool
stations_emits cards RunIn (Row row) hub = first_emits cards.first row hub
stations_emits cards Card (Row row) hub = first_emits cards.first row hub || second_emits cards.second row hub
stations_emits cards cycle point hub = false

-- the end of a cycle leaves the cards where they are
abbrev pub stations_ended : StationCards → Cycle → StationCards
stations_ended cards cycle = cards

-- the number of the stations among the units
abbrev pub stations_number : ℕ
stations_number = 1

-- the words of the rows at first and at second reading
pub record AreStationRows (cards : StationCards) (rows : List (List ℕ)) : Type 0 where
  pub two : length rows ≡ 2
  pub first : AreRowsAt cards.first (slice_index_or rows 0 [])
  pub second : AreRowsAt cards.second (slice_index_or rows 1 [])
