use Rattle.explain_wheels.proofs.ExplanationsWords.Printed.{placed-printed}
use Rattle.explain_wheels.proofs.explanations.laws.placed_lines_are_printed.Goals as goal

pub returns : goal.returns
returns c = placed-printed
