use Rattle.machine_sets.proofs.SpreadsWords.JoinedSets.{AreJoined}
use Rattle.machine_sets.proofs.spreads.sets.join.Given as goal

-- the sets so far are joined
abbrev pub invariant-loop-k : goal.invariant-loop-k
invariant-loop-k l = AreJoined l.k l.first l.sets l.fn.all l.all
