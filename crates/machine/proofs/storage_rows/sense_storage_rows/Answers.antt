use Rattle.std.proofs.Common.{◌∙◌}
use Rattle.std.proofs.lemmas.List.Edits.{map_over_more}
use Rattle.net.specs.RowSets.{after_rows, pictures_of}
use Rattle.storage_units.specs.Storage.{StorageState, storage_sensed}
use Rattle.machine.proofs.RestingRows.{changed-all}
use Rattle.machine.proofs.storage_rows.sense_storage_rows.Goals as goal

pub loop-unit-preserved : goal.loop-unit-preserved
loop-unit-preserved c =
    rw (c.sense_rows.ensures, ← c.unit-item.is)
    (map_over_more (λ (unit : StorageState). after_rows storage_sensed c.args.cycle (pictures_of c.args.pictures.now) unit) c.args.storage.now
    c.loop-unit.unit-items c.loop-unit.unit-index c.unit-item.result c.loop-unit-test.true c.loop-unit.invariant c.unit-item.is)

pub returns : goal.returns
returns c =
    c.loop-unit.invariant
    ∙ changed-all (λ (unit : StorageState). after_rows storage_sensed c.args.cycle (pictures_of c.args.pictures.now) unit) c.args.storage.now
    c.loop-unit.unit-index c.loop-unit-test.false
