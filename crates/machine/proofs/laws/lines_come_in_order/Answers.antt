use Rattle.machine.proofs.Order.{MachineLines-in_order}
use Rattle.machine.proofs.laws.lines_come_in_order.Goals as goal

pub returns : goal.returns
returns c = MachineLines-in_order
