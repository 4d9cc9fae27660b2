-- Sets of rows of hubs. The hub with the number h is the place h - 1.
use Rattle.std.specs.Prelude.{ℕ, ◌-◌, Bool, false, List, Option, Some, None}
use Rattle.hubs.specs.Hubs.{number_of}
use Rattle.hubs.specs.declared.hub.Hub.{Hub}
pub use Rattle.machine_sets.specs.SpreadsWords.Links.{has_at}

-- whether the set of a hub's number has a row; none where there is no number
abbrev pub has_at_number : List ℕ → ℕ → Option ℕ → Bool
has_at_number sets row (Some number) = has_at sets (number - 1) row
has_at_number sets row None = false

-- whether the set of a hub has the row at this place among the points: the set of the hub with the number h is the one at place h - 1
abbrev pub has_row_at : List ℕ → ℕ → Hub → Bool
has_row_at sets row hub = has_at_number sets row (number_of hub)
