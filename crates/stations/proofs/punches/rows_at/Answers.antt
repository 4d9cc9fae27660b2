use Rattle.stations.proofs.ColumnSets.{no_card}
use Rattle.stations.proofs.punches.rows_at.Goals as goal

pub returns-then-is_there : goal.returns-then-is_there
returns-then-is_there c = rw c.if-is_there.true c.rows_of.ensures

pub returns-else-is_there : goal.returns-else-is_there
returns-else-is_there c = rw c.if-is_there.false no_card
