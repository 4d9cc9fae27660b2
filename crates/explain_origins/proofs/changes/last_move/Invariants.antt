use Rattle.explain_origins.proofs.Keeping.{Keeps}
use Rattle.explain_origins.specs.Changes.{moves}
use Rattle.explain_origins.proofs.changes.last_move.Given as goal

-- the run stands between two cycles, and the last move up to here is known
abbrev pub invariant-loop-passed : goal.invariant-loop-passed
invariant-loop-passed l = Keeps l.setup l.cards l.passed l.run (moves l.fn.holder) l.last
