use Rattle.proof_cycles.proofs.WholeCycles.Carries.{carries-come}
use Rattle.proof_cycles.proofs.whole_cycles.laws.carries_come_by_wires.Goals as goal

pub returns : goal.returns
returns c = carries-come
