-- Sets of rows, one for each hub: the pictures of all twelve rows at once.
use Rattle.std.specs.Prelude.{◌≡◌, ℕ, ◌-◌, ◌&&◌, ◌||◌, nat_le, Bool, false, List, map, Option, Some}
use Rattle.card_code.specs.Rows.{passing_place, rows}
use Rattle.card_code.specs.declared.row.Row.{Row as CardRow}
use Rattle.hubs.specs.SetupsWords.Wiring.{HasWire, LeadsToEntries, Wiring}
use Rattle.hubs.specs.Hubs.{number_of}
use Rattle.hubs.specs.declared.hub.Hub.{Hub}
use Rattle.net.specs.HubRows.{has_row_at}
use Rattle.machine_sets.specs.SpreadsWords.Links.{has_at}
use Rattle.net.specs.Panel.{contact_of}
use Rattle.net.specs.WholeCycles.{after_points}
use Rattle.net.specs.declared.cycle.Cycle.{Cycle}
use Rattle.net.specs.declared.cycle.Point.{Point}
use Rattle.net.specs.declared.cycle.Point.TheVariants.{C, Row, K}

-- the pictures that the sets are: at the point of a row the hubs whose sets have it, at the other points none
abbrev pub pictures_of : List ℕ → Point → Hub → Bool
pictures_of sets C hub = false
pictures_of sets (Row row) hub = has_row_at sets (passing_place row) hub
pictures_of sets K hub = false

-- at the point of each row new has what old has, and each hub of the test
abbrev pub GainsRows : (CardRow → Hub → Bool) → List ℕ → List ℕ → Type 0
GainsRows test old new =
    (row : CardRow) (hub : Hub) → pictures_of new (Row row) hub ≡ (pictures_of old (Row row) hub || test row hub)

-- whether, of sets that stand for numbers from the first one on, that of a number has a row
abbrev pub is_set_from : Option ℕ → List ℕ → ℕ → Option ℕ → Bool
is_set_from (Some first) sets row (Some number) = nat_le first number && has_at sets (number - first) row
is_set_from first sets row number = false

-- Sets of hubs that follow one another: the one at place k is that of the hub whose number is the first one's and k.
abbrev pub is_in_sets : Hub → List ℕ → ℕ → Hub → Bool
is_in_sets first sets row hub = is_set_from (number_of first) sets row (number_of hub)

-- what a unit becomes by the points of the rows
abbrev pub after_rows : {State : Type 0} → (State → Cycle → Point → (Hub → Bool) → State)
    → Cycle → (Point → Hub → Bool) → State → State
after_rows sensed cycle pictures state = after_points sensed cycle pictures (map Row rows) state

-- Wires lead from exits to entries, and none leads to a hub from which contacts lead.
pub record LeadsToNoContact (wiring : Wiring) : Type 0 where
  pub leads : LeadsToEntries wiring
  pub unwired : (common hub exit : Hub) → contact_of hub ≡ Some common → HasWire wiring exit common → ⊥
