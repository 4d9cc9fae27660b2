use Rattle.storage_units.proofs.ColumnSets.{IsPut}
use Rattle.storage_units.proofs.columns.put_row.Given as goal

-- the row is put into the sets so far
abbrev pub invariant-loop-k : goal.invariant-loop-k
invariant-loop-k l = IsPut l.k l.place l.columns l.fn.sets l.sets
