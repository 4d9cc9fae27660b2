use Rattle.std.proofs.Common.{◌≡◌, ◌++◌, Bool, map, take, drop}
use Rattle.hubs.specs.declared.hub.Hub.{Hub}
use Rattle.hubs.specs.declared.hub.Hub.TheVariants.{SI}
use Rattle.net.specs.Orders.{IsRowOf}
use Rattle.net.specs.declared.cycle.Cycle.{Cycle}
use Rattle.net.specs.declared.cycle.Point.TheVariants.{C}
use Rattle.storage_units.specs.Storage.{storage_sensed}
use Rattle.machine.proofs.storage_rows.control_storage.Given as goal

-- the units so far have sensed
abbrev pub invariant-loop-unit : goal.invariant-loop-unit
invariant-loop-unit l =
    (cycle : Cycle) (picture : Hub → Bool) → IsRowOf (SI 1) picture l.row
    → l.unit-items
    ≡ map (λ unit. storage_sensed unit cycle C picture) (take l.unit-index l.initial.unit-items) ++ drop l.unit-index l.initial.unit-items
