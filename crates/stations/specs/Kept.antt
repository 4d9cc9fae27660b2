-- What is kept of the cards at the stations: the sets of rows of their columns, by the places of the rows among the points.
use Rattle.std.specs.Prelude.{ℕ, ◌-◌, Bool, true, false, List, [], map, Option, Some, None, slice_index_or}
use Rattle.card_code.specs.Columns.{column_of}
use Rattle.stations.specs.Stations.{StationCards}

-- the card whose columns have these sets, where there is one
abbrev pub card_of : Bool → List ℕ → Option (List ℕ)
card_of false columns = None
card_of true columns = Some (map column_of columns)

-- The cards at first and at second reading: the columns of the first are those at one place of two, and those of the second at the other.
abbrev pub kept_cards : Bool → Bool → ℕ → List (List ℕ) → StationCards
kept_cards first second front columns = record {
  first = card_of first (slice_index_or columns front []);
  second = card_of second (slice_index_or columns (1 - front) []);
}
