use Rattle.proof_cycles.proofs.WholeCycles.Rings.{rings-turn}
use Rattle.proof_cycles.proofs.whole_cycles.laws.rings_turn_by_themselves.Goals as goal

pub returns : goal.returns
returns c = rings-turn
