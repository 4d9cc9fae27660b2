-- What is told of orders, and the guide to faults.
use Rattle.fault_lines.specs.FaultGuide.Numbered.{HasEntries}
use Rattle.cli_commands.specs.declared.commands.orders.fault.OrdersFault.{OrdersFault}
use Rattle.cli_commands.specs.CommandsWords.ServedReplays.Refusals.{orders_told}

-- the numbers on the line of a fault of a text of orders are those of faults that have entries
abbrev pub ToldOrdersHaveEntries : Type 0
ToldOrdersHaveEntries = (fault : OrdersFault) → HasEntries (orders_told fault)
