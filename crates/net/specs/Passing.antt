-- What contacts pass on, told of hubs.
use Rattle.std.specs.Prelude.{◌≡◌, ℕ, nat_lt, Bool, true, false, List, Some, if◌then◌else◌}
use Rattle.card_code.specs.Rows.{passing_place}
use Rattle.card_code.specs.declared.row.Row.{Row as CardRow}
use Rattle.hubs.specs.declared.hub.Group.{Group}
use Rattle.hubs.specs.declared.hub.Hub.{Hub}
use Rattle.hubs.specs.declared.hub.Hub.TheVariants.{CI, CO}
use Rattle.net.specs.HubSets.{HubSet, has_hub}
use Rattle.net.specs.HubRows.{has_row_at}
use Rattle.net.specs.Panel.{contact_of}

-- whether the contact to an exit is closed at a row: at the rows 9 to 0 where the first set has the exit, at 11 and 12 where the second one
-- has it
abbrev pub closes_at_row : HubSet → HubSet → CardRow → Hub → Bool
closes_at_row digits zones row hub = has_hub (if nat_lt (passing_place row) 10 then digits else zones) hub

-- no carry entry of the picture has a closed contact
abbrev pub PassesNoCarry : (Hub → Bool) → (Hub → Bool) → Type 0
PassesNoCarry closed picture = (group : Group) → picture (CI group) ≡ true → closed (CO group) ≡ false

-- no hub from which contacts lead has a row, nor has one that they lead to
abbrev pub AreContactsSilent : List ℕ → Type 0
AreContactsSilent sets =
    (common hub : Hub) → contact_of hub ≡ Some common → (row : CardRow)
    → (has_row_at sets (passing_place row) common ≡ false) × (has_row_at sets (passing_place row) hub ≡ false)
