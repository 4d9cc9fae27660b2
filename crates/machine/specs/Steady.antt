-- Helper words: contacts that stay as they are through a cycle are closed once for all its points, those of the carries at the
-- closing point.
use Rattle.std.specs.Prelude.{◌≡◌, ◌||◌, Bool, false, List, map, if◌then◌else◌}
use Rattle.counters.specs.Counters.{Counter, wheels_in}
use Rattle.counters.specs.Wheels.{all_nines, carries_out}
use Rattle.hubs.specs.declared.hub.Hub.{Hub}
use Rattle.net.specs.HubSets.{HubSet, has_hub}
use Rattle.net.specs.declared.cycle.Cycle.{Cycle}
use Rattle.net.specs.declared.cycle.Point.{Point}
use Rattle.net.specs.declared.cycle.Point.TheVariants.{C, Row, K}
use Rattle.selectors.specs.Contacts.{steady_closes}
use Rattle.selectors.specs.Splits.{is_digit_row, split_closes}
use Rattle.machine.specs.Machine.{MachineState}
use Rattle.machine.specs.declared.closed.Closed.{Closed}

-- the balance latches of the counter groups
abbrev pub balance_latches : List Counter → List Bool
balance_latches groups = map (λ group. group.latch) groups

-- which counter groups stand at nines: all their positions at 9, with the advance of the cycle and before any carry
abbrev pub nines_of : List Counter → List Bool
nines_of groups = map (λ group. all_nines (wheels_in group)) groups

-- which counter groups a carry leaves, as their wheels make it by themselves
abbrev pub carries_of : List Counter → List Bool
carries_of groups = map (λ group. carries_out (wheels_in group) false) groups

-- the contacts that are closed at a point, but for those of the carries
abbrev pub closed_at : Closed → Point → HubSet
closed_at closed C = closed.steady
closed_at closed (Row row) = if is_digit_row row then closed.digits else closed.zones
closed_at closed K = closed.steady

-- These are the closed contacts of the machine but for those of the carries, at every point of the cycle.
abbrev pub AreSteady : Cycle → Closed → MachineState → Type 0
AreSteady cycle closed machine =
    (point : Point) (hub : Hub)
    → has_hub (closed_at closed point) hub
    ≡ (steady_closes cycle point machine.pilots machine.indicate (balance_latches machine.groups) hub || split_closes point hub)
