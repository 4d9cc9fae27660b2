-- The orders so far are those of the lines so far, the others are left, and the text that is left gets shorter.
use Rattle.std.proofs.Common.{length}
use Rattle.card_code.specs.Lines.{lines_of}
use Rattle.cli_commands.proofs.CommandsWords.UnitOrders.OrdersText.{HaveRead}
use Rattle.cli_commands.proofs.commands.orders.read.read_orders.Given as goal
use Rattle.machine_served.specs.ServedWords.Orders.{lists_of}

abbrev pub invariant-loop-line : goal.invariant-loop-line
invariant-loop-line l = HaveRead (lines_of l.text) (lines_of l.rest) (lists_of l.orders.items)

abbrev pub decreases-loop-line : goal.decreases-loop-line
decreases-loop-line l = length l.rest
