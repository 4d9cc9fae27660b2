-- Helper words: the contacts of the balance positions of a group, up to one of them.
use Rattle.std.specs.Prelude.{ℕ, ◌==◌, ◌&&◌, not, nat_lt, Bool, false}
use Rattle.hubs.specs.HubTable.Ranges.{is_within}
use Rattle.hubs.specs.declared.hub.Group.{Group}
use Rattle.hubs.specs.declared.hub.Hub.{Hub}
use Rattle.hubs.specs.declared.hub.Hub.TheVariants.{BAN, BAT}
use Rattle.net.specs.Panel.{unit_of}

-- whether a position, 1 to 4, is one of the group that is a unit, and stands before an end
abbrev pub has_before : ℕ → ℕ → Group → ℕ → Bool
has_before end unit group position = (unit_of group == unit) && (is_within position 4 && nat_lt position end)

-- the contacts that are closed of the positions before an end, by the latch of the group
abbrev pub balances_to : ℕ → ℕ → Bool → Hub → Bool
balances_to end unit latch (BAN group position) = has_before end unit group position && not latch
balances_to end unit latch (BAT group position) = has_before end unit group position && latch
balances_to end unit latch other = false
