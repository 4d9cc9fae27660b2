use Rattle.net.proofs.KindPaths.{ArePathsBelow}
use Rattle.net.proofs.kinds.paths_of_kinds.Given as goal

-- so many kinds have their paths
abbrev pub invariant-loop-kind : goal.invariant-loop-kind
invariant-loop-kind l = ArePathsBelow l.links l.tellings l.kind l.paths.items
