use Rattle.proof_cycles.proofs.WholeCycles.Staying.{machines-stay}
use Rattle.proof_cycles.proofs.whole_cycles.laws.machines_stay_between.Goals as goal

pub returns : goal.returns
returns c = machines-stay
