use Rattle.proof_cycles.proofs.TotalsWords.Examples.{in_three_wheels}
use Rattle.proof_cycles.proofs.totals.laws.in_three_wheels.Goals as goal

pub returns : goal.returns
returns c = in_three_wheels
