-- Which fault is told where a wiring chart, a text of orders or a deck is refused. A later one is told only where no earlier one is there.
use Rattle.std.specs.Prelude.{◌≡◌, ℕ, List}
use Rattle.card_code.specs.Lines.{lines_of}
use Rattle.fault_lines.specs.declared.faults.fault.Fault.{Fault}
use Rattle.fault_lines.specs.declared.faults.fault.Fault.TheVariants as fault
use Rattle.cli_commands.specs.CommandsWords.UnitOrders.OrdersText.{HasOrdersFault, SayOrders}
use Rattle.cli_commands.specs.declared.commands.orders.fault.OrdersFault.{OrdersFault}
use Rattle.cli_commands.specs.declared.commands.orders.fault.OrdersFault.TheVariants as orders
use Rattle.fault_lines.specs.ProgramIo.Refusals.{RefusesDeck, RefusesWiring}
use Rattle.hubs.specs.SetupsWords.Wiring.{Wiring}
use Rattle.wiring_text.specs.WiringText.{ReadsAs}

-- what is told of a text of orders: the lowest line that is no order, or that there is none
abbrev pub orders_told : OrdersFault → Fault
orders_told (orders.NotAnOrder line) = fault.Line 84 line
orders_told orders.NoOrders = fault.Whole 84
orders_told orders.Memory = fault.Memory

-- the fault of a text of orders is told
pub record RefusesOrders (text : List ℕ) (told : Fault) : Type 0 where
  pub cause : OrdersFault
  pub at_fault : HasOrdersFault (lines_of text) cause
  pub named : told ≡ orders_told cause

-- of a wiring chart, a text of orders and a deck: the fault of the wiring chart, else of the orders, else of the deck's text
pub data RefusesByOrders (text orders deck : List ℕ) (told : Fault) : Type 0 where
  wires : RefusesWiring text told → RefusesByOrders text orders deck told
  lists : (wiring : Wiring) → ReadsAs text wiring → RefusesOrders orders told → RefusesByOrders text orders deck told
  punches : (wiring : Wiring) → ReadsAs text wiring → (service : List (List ℕ)) → SayOrders (lines_of orders) service
      → RefusesDeck deck told → RefusesByOrders text orders deck told
