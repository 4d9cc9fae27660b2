use Rattle.std.proofs.Common.{◌∙◌}
use Rattle.std.proofs.lemmas.List.Edits.{map_over_more}
use Rattle.net.specs.declared.cycle.Point.TheVariants.{C}
use Rattle.storage_units.specs.Storage.{StorageState, storage_sensed}
use Rattle.machine.proofs.RestingRows.{changed-all}
use Rattle.machine.proofs.storage_rows.control_storage.Goals as goal

pub loop-unit-preserved : goal.loop-unit-preserved
loop-unit-preserved c cycle picture row =
    rw (c.sense_controls.ensures cycle picture row, ← c.unit-item.is)
    (map_over_more (λ (unit : StorageState). storage_sensed unit cycle C picture) c.args.storage.now
    c.loop-unit.unit-items c.loop-unit.unit-index c.unit-item.result c.loop-unit-test.true (c.loop-unit.invariant cycle picture row) c.unit-item.is)

pub returns : goal.returns
returns c cycle picture row =
    c.loop-unit.invariant cycle picture row
    ∙ changed-all (λ (unit : StorageState). storage_sensed unit cycle C picture) c.args.storage.now c.loop-unit.unit-index
    c.loop-unit-test.false
