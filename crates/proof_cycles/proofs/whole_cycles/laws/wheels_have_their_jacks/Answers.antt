use Rattle.proof_cycles.proofs.WholeCycles.Wheels.{wheels-jacks}
use Rattle.proof_cycles.proofs.whole_cycles.laws.wheels_have_their_jacks.Goals as goal

pub returns : goal.returns
returns c = wheels-jacks
