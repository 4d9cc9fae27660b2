use Rattle.machine.proofs.OneOutcome.{MachineLines-one}
use Rattle.machine.proofs.laws.runs_have_one_outcome.Goals as goal

pub returns : goal.returns
returns c = MachineLines-one
