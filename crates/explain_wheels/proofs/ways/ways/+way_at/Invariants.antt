use Rattle.explain_wheels.specs.WaysWords.Tables.{at}
use Rattle.explain_wheels.proofs.ways.ways.+way_at.Given as goal

abbrev pub decreases-way_at : goal.decreases-way_at
decreases-way_at l = at l.steps.now l.to
