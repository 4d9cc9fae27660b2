use Rattle.explain_wheels.specs.WaysWords.Tables.{IsPass}
use Rattle.explain_wheels.proofs.WaysWords.Fills.{IsListedBefore}
use Rattle.explain_wheels.proofs.ways.search.fill_all.Given as goal

abbrev pub invariant-loop-to : goal.invariant-loop-to
invariant-loop-to l = IsPass l.level (IsListedBefore l.entries l.to-index) l.initial.steps l.steps l.added
