use Rattle.proof_cycles.proofs.WholeCycles.Units.{units-by_name}
use Rattle.proof_cycles.proofs.whole_cycles.laws.units_are_by_name.Goals as goal

pub returns : goal.returns
returns c = units-by_name
