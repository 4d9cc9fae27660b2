use Rattle.std.proofs.Common.{take}
use Rattle.std.specs.List.{list_any}
use Rattle.net.specs.HubSets.{GainsHubs}
use Rattle.machine.proofs.rows.emit_all.Given as goal

-- the units so far have emitted
abbrev pub invariant-loop-unit : goal.invariant-loop-unit
invariant-loop-unit g l =
    GainsHubs (λ exit. list_any (λ unit. g.U.Unit.emits unit l.cycle l.point exit) (take l.unit-index l.units))
    l.fn.exits l.exits
