use Rattle.stations.proofs.EntryLanes.{HasRowTo}
use Rattle.stations.proofs.comparing.add_row.Given as goal

-- the sets so far have the row, where they are impulsed
abbrev pub invariant-loop-k : goal.invariant-loop-k
invariant-loop-k l = HasRowTo l.k l.place l.impulsed l.fn.sets l.sets
