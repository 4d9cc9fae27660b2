use Rattle.std.proofs.Common.{◌≡◌, ◌++◌, map, take, drop}
use Rattle.net.specs.HubSets.{has_hub}
use Rattle.machine.proofs.rows.sense_all.Given as goal

-- the units so far have sensed
abbrev pub invariant-loop-unit : goal.invariant-loop-unit
invariant-loop-unit g l =
    l.unit-items
    ≡ map (λ unit. g.U.Unit.sensed unit l.cycle l.point (has_hub l.picture)) (take l.unit-index l.initial.unit-items)
    ++ drop l.unit-index l.initial.unit-items
