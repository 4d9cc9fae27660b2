use Rattle.machine.proofs.SameSetups.{MachineLines-same}
use Rattle.machine.proofs.laws.same_setups_print_alike.Goals as goal

pub returns : goal.returns
returns c = MachineLines-same
