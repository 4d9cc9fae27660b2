use Rattle.machine.proofs.SomeOutcome.{MachineLines-some}
use Rattle.machine.proofs.laws.runs_have_an_outcome.Goals as goal

pub returns : goal.returns
returns c = MachineLines-some
