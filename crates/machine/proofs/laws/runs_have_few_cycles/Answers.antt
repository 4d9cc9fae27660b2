use Rattle.machine.proofs.FewCycles.{runs-have-few}
use Rattle.machine.proofs.laws.runs_have_few_cycles.Goals as goal

pub returns : goal.returns
returns c = runs-have-few
