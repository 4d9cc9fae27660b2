-- The pages of a replay by orders, and what is counted in it, from the bytes of its texts.
use Rattle.std.specs.Prelude.{◌≡◌, ℕ, List}
use Rattle.card_code.specs.Deck.{Deck}
use Rattle.card_code.specs.Lines.{lines_of}
use Rattle.machine.specs.Runs.{MachineLines}
use Rattle.cli_commands.specs.CommandsWords.UnitOrders.OrdersText.{SayOrders}
use Rattle.page_text.specs.Pages.{Pages}
use Rattle.page_text.specs.declared.placed_lines.placed_line.PlacedLine.{PlacedLine}
use Rattle.machine_served.specs.ServedRuns.Runs.{IsServedRun}
use Rattle.machine_served.specs.declared.served_runs.counts.Counts.{Counts}
use Rattle.hubs.specs.SetupsWords.Wiring.{Wiring}
use Rattle.wiring_text.specs.WiringText.{ReadsAs}

-- the wiring chart reads, and the lines of the text say orders
pub record HasOrders (text orders : List ℕ) : Type 0 where
  pub wiring : Wiring
  pub reads : ReadsAs text wiring
  pub service : List (List ℕ)
  pub says : SayOrders (lines_of orders) service

-- On a panel that is wired so: the pages are those of the lines that the machine prints of the deck, in which all units act at once; and
-- the run in which the units are served by these orders places these lines too, and so much is counted in it.
pub record IsServedOn (wiring : Wiring) (service : List (List ℕ)) (deck pages : List ℕ) (counts : Counts) : Type 0 where
  pub cards : List (List ℕ)
  pub punched : Deck deck cards
  pub lines : List PlacedLine
  pub run : MachineLines wiring cards lines
  pub printed : pages ≡ Pages lines wiring.tape.lines
  pub counted : IsServedRun wiring service cards lines counts

-- of a wiring chart, a text of orders and a deck: those of the deck on a panel that is wired as the wiring chart reads, served by the
-- orders that the lines of the text say
pub record IsReplayByOrders (text orders deck pages : List ℕ) (counts : Counts) : Type 0 where
  pub wiring : Wiring
  pub reads : ReadsAs text wiring
  pub service : List (List ℕ)
  pub says : SayOrders (lines_of orders) service
  pub served : IsServedOn wiring service deck pages counts
