use Rattle.std.proofs.Common.{take}
use Rattle.std.specs.List.{list_any}
use Rattle.net.specs.RowSets.{GainsRows}
use Rattle.net.specs.declared.cycle.Point.TheVariants.{Row}
use Rattle.storage_units.specs.Storage.{storage_emits}
use Rattle.machine.proofs.storage_rows.emit_storage_rows.Given as goal

-- the units so far have emitted
abbrev pub invariant-loop-unit : goal.invariant-loop-unit
invariant-loop-unit l =
    GainsRows (λ row exit. list_any (λ unit. storage_emits unit l.cycle (Row row) exit) (take l.unit-index l.storage)) l.fn.sets l.sets
