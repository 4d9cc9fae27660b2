use Rattle.std.proofs.Common.{true}
use Rattle.stations.specs.Kept.{card_of}
use Rattle.stations.proofs.KeptColumns.{kept-columns}
use Rattle.stations.proofs.ColumnSets.{rows-all, rows-more, rows-none}
use Rattle.stations.proofs.punches.rows_of.Goals as goal

pub loop-place-init : goal.loop-place-init
loop-place-init c = rows-none c.args.columns.now

pub loop-place-preserved : goal.loop-place-preserved
loop-place-preserved c =
    rows-more c.loop-place.place c.row_of.result c.args.columns.now c.loop-place.rows c.loop-place-test.true c.row_of.ensures
    c.loop-place.invariant

pub returns : goal.returns
returns c =
    rows-all c.loop-place.place (card_of true c.args.columns.now) c.args.columns.now c.loop-place.rows c.loop-place-test.false
    (kept-columns c.args.columns.now c.told-columns) c.loop-place.invariant
