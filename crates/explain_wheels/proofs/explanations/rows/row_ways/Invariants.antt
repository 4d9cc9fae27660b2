use Rattle.explain_wheels.specs.ExplanationsWords.Rows.{AreRowWays}
use Rattle.explain_wheels.proofs.explanations.rows.row_ways.Given as goal

-- the rows so far have their ways
abbrev pub invariant-loop-row : goal.invariant-loop-row
invariant-loop-row l = AreRowWays l.setup l.kept.points l.row l.ways.items
