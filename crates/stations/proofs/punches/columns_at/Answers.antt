use Rattle.stations.proofs.ColumnSets.{no_columns}
use Rattle.stations.proofs.KeptColumns.{kept-columns}
use Rattle.stations.proofs.punches.columns_at.Goals as goal

pub returns-then-is_there : goal.returns-then-is_there
returns-then-is_there c = rw c.if-is_there.true (kept-columns c.args.columns.now c.told-columns)

pub returns-else-is_there : goal.returns-else-is_there
returns-else-is_there c = rw c.if-is_there.false no_columns
