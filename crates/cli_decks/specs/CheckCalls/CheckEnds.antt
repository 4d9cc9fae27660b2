-- What the command has done where it ends well, and what it has told where it doesn't. The deck is known where its reader tells its bytes
-- beforehand, and what is written where the writer tells what it holds.
use Rattle.std.specs.Prelude.{◌≡◌, ℕ, List, Option, IfSome}
use Rattle.std.specs.Io.KnownBytes.{Appends}
use Rattle.card_code.specs.Deck.{Deck}
use Rattle.cli_commands.specs.CommandsWords.Answers.{CompilesAs}
use Rattle.cli_commands.specs.CommandsWords.Refusals.{RefusesChart}
use Rattle.compile407.specs.Compilation.{Compilation}
use Rattle.compile407.specs.Runnable.{IsRunnable}
use Rattle.cli_decks.specs.CheckCalls.DeckChecks.Fine.{fine_told}
use Rattle.cli_decks.specs.CheckCalls.DeckChecks.Endings.{EndsCheck}
use Rattle.fault_lines.specs.declared.faults.fault.Fault.{Fault}
use Rattle.fault_lines.specs.declared.faults.fault.Fault.TheVariants as fault

-- the deck of a text has these cards, and can be run
pub record HasRunnableDeck (compiled : Compilation) (cards : List (List ℕ)) (text : List ℕ) : Type 0 where
  pub deck : Deck text cards
  pub runnable : IsRunnable compiled.chart cards

-- The text is a chart that compiles, the deck is one that it can be run with, and `ok` was written after what was there, and how many cards
-- the deck has, its first and its last one.
pub record PrintsOk (text : List ℕ) (deck old new : Option (List ℕ)) : Type 0 where
  pub compiled : Compilation
  pub compiles : CompilesAs text compiled
  pub cards : List (List ℕ)
  pub fine : IfSome deck (HasRunnableDeck compiled cards)
  pub written : Appends old new (fine_told cards)

-- Why it wasn't: the chart is refused, or memory was wanting for it, and nothing was written; or the chart compiles, and the check of the deck
-- has something to tell.
pub data StopsCheck (text : List ℕ) (deck old new : Option (List ℕ)) (told : Fault) (Unprinted : Type 0) : Type 0 where
  chart_refused : RefusesChart text told → Unprinted → StopsCheck text deck old new told Unprinted
  chart_unread : told ≡ fault.Memory → Unprinted → StopsCheck text deck old new told Unprinted
  deck_told : (compiled : Compilation) → CompilesAs text compiled → EndsCheck compiled.chart deck old new told
      → StopsCheck text deck old new told Unprinted
