use Rattle.stations.proofs.KeptColumns.{HasColumns}
use Rattle.stations.proofs.punches.put_columns.Given as goal

-- the columns so far are there
abbrev pub invariant-loop-k : goal.invariant-loop-k
invariant-loop-k l = HasColumns l.k l.punched l.columns
