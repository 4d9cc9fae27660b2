use Rattle.proof_cycles.proofs.WholeCycles.Ready.{machines-ready}
use Rattle.proof_cycles.proofs.whole_cycles.laws.machines_stay_ready.Goals as goal

pub returns : goal.returns
returns c = machines-ready
