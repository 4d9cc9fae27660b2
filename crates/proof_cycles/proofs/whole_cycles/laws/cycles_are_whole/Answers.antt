use Rattle.proof_cycles.proofs.WholeCycles.Wholes.{cycles-whole}
use Rattle.proof_cycles.proofs.whole_cycles.laws.cycles_are_whole.Goals as goal

pub returns : goal.returns
returns c = cycles-whole
