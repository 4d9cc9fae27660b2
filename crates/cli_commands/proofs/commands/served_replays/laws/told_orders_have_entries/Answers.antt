use Rattle.std.proofs.Common.{refl}
use Rattle.fault_lines.specs.FaultGuide.Numbered.{HasEntries}
use Rattle.cli_commands.specs.declared.commands.orders.fault.OrdersFault.{OrdersFault}
use Rattle.cli_commands.specs.declared.commands.orders.fault.OrdersFault.TheVariants as orders
use Rattle.cli_commands.specs.CommandsWords.ServedReplays.Refusals.{orders_told}
use Rattle.cli_commands.proofs.commands.served_replays.laws.told_orders_have_entries.Goals as goal

have-entries : (fault : OrdersFault) → HasEntries (orders_told fault)
have-entries (orders.NotAnOrder line) = refl
have-entries orders.NoOrders = refl
have-entries orders.Memory = tt

pub returns : goal.returns
returns c = have-entries
