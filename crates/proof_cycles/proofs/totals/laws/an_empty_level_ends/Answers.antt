use Rattle.proof_cycles.proofs.TotalsWords.GroupEnds.{empty_ends}
use Rattle.proof_cycles.proofs.totals.laws.an_empty_level_ends.Goals as goal

pub returns : goal.returns
returns c = empty_ends
