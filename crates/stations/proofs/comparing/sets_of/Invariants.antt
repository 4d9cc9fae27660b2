use Rattle.std.proofs.Common.{take}
use Rattle.stations.proofs.CollectedWords.{AreSetsTo}
use Rattle.stations.proofs.comparing.sets_of.Given as goal

-- the rows so far are read off the sets
abbrev pub invariant-loop-place : goal.invariant-loop-place
invariant-loop-place l = AreSetsTo l.place (take 30 l.first) (take 30 l.second) l.sets
