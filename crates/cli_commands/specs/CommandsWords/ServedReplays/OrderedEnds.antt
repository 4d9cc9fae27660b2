-- What a replay by orders has done where it ends well, and what it has told where it doesn't. The deck is known where its reader tells
-- its bytes beforehand, and what is written where the writer tells what it holds.
use Rattle.std.specs.Prelude.{◌≡◌, ℕ, List, Option, IfSome}
use Rattle.std.specs.Io.KnownBytes.{Appends}
use Rattle.fault_lines.specs.declared.faults.fault.Fault.{Fault}
use Rattle.cli_commands.specs.CommandsWords.ServedReplays.Answers.{IsReplayByOrders}
use Rattle.cli_commands.specs.CommandsWords.ServedReplays.Refusals.{RefusesByOrders}
use Rattle.machine_served.specs.declared.served_runs.counts.Counts.{Counts}

-- the pages of a wiring chart, orders and a deck were printed after what was there, and so much was counted
pub record PrintsServed (text orders deck : List ℕ) (counts : Counts) (old new : Option (List ℕ)) : Type 0 where
  pub pages : List ℕ
  pub answers : IsReplayByOrders text orders deck pages counts
  pub written : Appends old new pages

-- those of the deck that was read were printed
pub record PrintsByOrders (text orders : List ℕ) (deck : Option (List ℕ)) (counts : Counts) (old new : Option (List ℕ)) : Type 0 where
  pub read : List ℕ
  pub is_deck : IfSome deck (λ known. read ≡ known)
  pub prints : PrintsServed text orders read counts old new

-- the wiring chart, the orders or the deck that was read is refused, and this is told of it
pub record IsRefusedByOrders (text orders : List ℕ) (deck : Option (List ℕ)) (told : Fault) : Type 0 where
  pub read : List ℕ
  pub is_deck : IfSome deck (λ known. read ≡ known)
  pub refuses : RefusesByOrders text orders read told
