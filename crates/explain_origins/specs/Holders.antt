-- What holds something in the machine from cycle to cycle, until a cycle moves it: the storage units, the pilots, and the balance latches
-- of the counter groups.
use Rattle.std.specs.Prelude.{ℕ, ◌+◌, ◌-◌, ◌<◌, ◌≤◌, ◌==◌, ◌||◌, nat_lt, Bool, false, List, [], ◌∷◌, Option, Some, None, Vec, if◌then◌else◌}
use Rattle.std.specs.declared.alloc.Global.{Global}
use Rattle.counters.specs.Counters.{group_of_unit}
use Rattle.hubs.specs.Carries.{is_one_group}
use Rattle.hubs.specs.declared.hub.Hub.{Hub}
use Rattle.hubs.specs.declared.hub.Hub.TheVariants.{BAT, PIT}
use Rattle.explain_origins.specs.Storage.{is_read}
use Rattle.explain_origins.specs.declared.holders.Holder.{Holder}
use Rattle.explain_origins.specs.declared.holders.Holder.TheVariants.{Storage, Pilot, Latch}

-- it is on the panel
abbrev pub IsHolder : Holder → Type 0
IsHolder (Storage place) = place < 4
IsHolder (Pilot pilot) = (1 ≤ pilot) × (pilot ≤ 16)
IsHolder (Latch place) = place < 32

-- each of them, by its place in their order: four storage units, 16 pilots, 32 counter groups
abbrev pub holder_at : ℕ → Holder
holder_at place = if nat_lt place 4 then Storage place else if nat_lt place 20 then Pilot (place - 3) else Latch (place - 20)

-- a hub is the exit of a contact that is closed while a pilot is transferred
abbrev pub is_pilot_exit : ℕ → Hub → Bool
is_pilot_exit pilot (PIT own position) = own == pilot
is_pilot_exit pilot hub = false

-- or while the balance latch of the group of a place is set
abbrev pub is_latch_exit : ℕ → Hub → Bool
is_latch_exit place (BAT group position) = is_one_group (group_of_unit (3 + place)) group
is_latch_exit place hub = false

-- one of these
abbrev pub is_transferred : Holder → Hub → Bool
is_transferred (Storage place) hub = false
is_transferred (Pilot pilot) hub = is_pilot_exit pilot hub
is_transferred (Latch place) hub = is_latch_exit place hub

-- one of some hubs is such an exit
abbrev pub passes : Holder → List Hub → Bool
passes holder [] = false
passes holder (hub ∷ hubs) = is_transferred holder hub || passes holder hubs

-- a way leads through such a contact, if there is a way
abbrev pub leads_one : Holder → Option (Vec Hub Global) → Bool
leads_one holder None = false
leads_one holder (Some way) = passes holder way.items

-- one of some ways does
abbrev pub leads_through : Holder → List (Option (Vec Hub Global)) → Bool
leads_through holder [] = false
leads_through holder (way ∷ ways) = leads_one holder way || leads_through holder ways

-- some ways rest on what a holder holds: one begins at an exit of the storage unit, or leads through a contact that is transferred
abbrev pub ways_rest_on : Holder → List (Option (Vec Hub Global)) → Bool
ways_rest_on (Storage place) ways = is_read (place + 1) ways
ways_rest_on (Pilot pilot) ways = leads_through (Pilot pilot) ways
ways_rest_on (Latch place) ways = leads_through (Latch place) ways
