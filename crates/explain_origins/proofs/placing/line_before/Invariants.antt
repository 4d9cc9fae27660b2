use Rattle.explain_origins.proofs.Printing.{Prints}
use Rattle.explain_origins.proofs.placing.line_before.Given as goal

-- the run stands between two cycles, and the last line up to here is known
abbrev pub invariant-loop-passed : goal.invariant-loop-passed
invariant-loop-passed l = Prints l.setup l.cards l.passed l.run l.last
