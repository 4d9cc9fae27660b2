use Rattle.std.proofs.Common.{◌≡◌, ◌++◌, map, take, drop}
use Rattle.net.specs.RowSets.{after_rows, pictures_of}
use Rattle.storage_units.specs.Storage.{storage_sensed}
use Rattle.machine.proofs.storage_rows.sense_storage_rows.Given as goal

-- the units so far have sensed
abbrev pub invariant-loop-unit : goal.invariant-loop-unit
invariant-loop-unit l =
    l.unit-items
    ≡ map (λ unit. after_rows storage_sensed l.cycle (pictures_of l.pictures) unit) (take l.unit-index l.initial.unit-items)
    ++ drop l.unit-index l.initial.unit-items
