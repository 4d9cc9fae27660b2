use Rattle.explain_wheels.proofs.ExplanationsWords.Says.{units-say}
use Rattle.explain_wheels.proofs.explanations.laws.units_are_as_told.Goals as goal

pub returns : goal.returns
returns c = units-say
