use Rattle.proof_cycles.proofs.TotalsWords.Passing.{empty_passes}
use Rattle.proof_cycles.proofs.totals.laws.an_empty_level_passes.Goals as goal

pub returns : goal.returns
returns c = empty_passes
