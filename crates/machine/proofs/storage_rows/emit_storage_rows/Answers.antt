use Rattle.net.specs.declared.cycle.Point.TheVariants.{Row}
use Rattle.storage_units.specs.Storage.{storage_emits}
use Rattle.machine.proofs.RestingRows.{added-more, any-more}
use Rattle.machine.proofs.storage_rows.emit_storage_rows.Goals as goal

pub loop-unit-preserved : goal.loop-unit-preserved
loop-unit-preserved c row hub =
    added-more _ _ _ _ _ _ (c.loop-unit.invariant row hub) (c.emit_rows.ensures row hub)
    (any-more (λ unit. storage_emits unit c.args.cycle (Row row) hub) c.args.storage.now c.loop-unit.unit-index c.unit-item.result
    c.loop-unit-test.true c.unit-item.is)
