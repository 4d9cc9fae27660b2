use Rattle.stations.proofs.ColumnSets.{AreRowsTo}
use Rattle.stations.proofs.punches.rows_of.Given as goal

-- the rows so far are read off the columns
abbrev pub invariant-loop-place : goal.invariant-loop-place
invariant-loop-place l = AreRowsTo l.place l.columns l.rows
