-- The closed contacts of the panel at a point of a cycle: those of the carries and of the balance positions of the counter
-- groups, of the pilots, of group indication and of the column splits.
use Rattle.std.specs.Prelude.{ℕ, ◌-◌, ◌&&◌, ◌||◌, not, nat_le, Bool, false, List, slice_index_or}
use Rattle.hubs.specs.HubTable.Ranges.{is_within}
use Rattle.hubs.specs.declared.hub.Group.{Group}
use Rattle.hubs.specs.declared.hub.Hub.{Hub}
use Rattle.hubs.specs.declared.hub.Hub.TheVariants.{BAN, BAT, CO}
use Rattle.net.specs.Cycles.{is_closing}
use Rattle.net.specs.Panel.{unit_of}
use Rattle.net.specs.declared.cycle.Cycle.{Cycle}
use Rattle.net.specs.declared.cycle.Point.{Point}
use Rattle.selectors.specs.Indicate.{Latches, indicate_closes}
use Rattle.selectors.specs.Pilots.{PilotStates, pilots_closes}
use Rattle.selectors.specs.Splits.{split_closes}

-- whether the balance latch of a counter group is set; the latches stand in the order of the units 3 to 34
abbrev pub is_balance_set : List Bool → Group → Bool
is_balance_set latches group = slice_index_or latches (unit_of group - 3) false

-- whether the panel has a balance position: there is such a group, and it has four
abbrev pub has_balance : Group → ℕ → Bool
has_balance group position = nat_le 3 (unit_of group) && is_within position 4

-- The contacts of a balance position, at all points of all cycles: the normal one while the balance latch of its group is
-- reset, the transferred one while it is set.
abbrev pub balance_closes : List Bool → Hub → Bool
balance_closes latches (BAN group position) = has_balance group position && not (is_balance_set latches group)
balance_closes latches (BAT group position) = has_balance group position && is_balance_set latches group
balance_closes latches hub = false

-- whether all positions of a counter group stand at 9, with the advance of the cycle and before any carry; the groups stand in the
-- order of the units 3 to 34
abbrev pub is_nines : List Bool → Group → Bool
is_nines nines group = slice_index_or nines (unit_of group - 3) false

-- The contact from the carry entry of a group to its carry exit, in all cycles: at the closing point it is closed where all
-- positions of the group stand at 9, at other points never.
abbrev pub carry_closes : Point → List Bool → Hub → Bool
carry_closes point nines (CO group) = is_closing point && (nat_le 3 (unit_of group) && is_nines nines group)
carry_closes point nines hub = false

-- the contacts but for the carries' and the splits': these are the same at all points of a cycle
abbrev pub steady_closes : Cycle → Point → PilotStates → Latches → List Bool → Hub → Bool
steady_closes cycle point pilots indicate latches hub =
    balance_closes latches hub || (pilots_closes pilots cycle point hub || indicate_closes indicate cycle point hub)

-- all contacts that are closed at a point, by the balance latches of the groups and by which of them stand at nines
abbrev pub closed_contacts : Cycle → Point → PilotStates → Latches → List Bool → List Bool → Hub → Bool
closed_contacts cycle point pilots indicate latches nines hub =
    carry_closes point nines hub
    || (balance_closes latches hub
    || (pilots_closes pilots cycle point hub || (indicate_closes indicate cycle point hub || split_closes point hub)))
