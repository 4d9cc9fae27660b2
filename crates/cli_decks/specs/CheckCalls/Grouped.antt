-- What the command that tells the control keys that come back has done where it ends well, and what it has told where it doesn't. The deck is known
-- where its reader tells its bytes beforehand, and what is written where the writer tells what it holds.
use Rattle.std.specs.Prelude.{◌≡◌, ℕ, List, ◌++◌, Option, Some, IfSome}
use Rattle.std.specs.Io.KnownBytes.{Appends}
use Rattle.chart_lines.specs.ChartsWords.Chart.{Chart}
use Rattle.cli_decks.specs.CheckCalls.DeckChecks.Endings.{EndsCheck, IsFine}
use Rattle.cli_decks.specs.CheckCalls.DeckChecks.Fine.{fine_told}
use Rattle.cli_decks.specs.CheckCalls.DeckChecks.HelperStanding.{BreaksOff}
use Rattle.cli_commands.specs.CommandsWords.Answers.{CompilesAs}
use Rattle.cli_commands.specs.CommandsWords.Refusals.{RefusesChart}
use Rattle.compile407.specs.Compilation.{Compilation}
use Rattle.fault_lines.specs.declared.faults.fault.Fault.{Fault}
use Rattle.fault_lines.specs.declared.faults.fault.Fault.TheVariants as fault
use Rattle.cli_decks.specs.DeckNotes.KeyReturns.Words.{returns_told}

-- what is told of the cards of a deck: which there are, and the keys that come back
abbrev pub grouped_told : Chart → (cards : List (List ℕ)) → List ℕ
grouped_told chart cards = fine_told cards ++ returns_told chart.lines cards

-- Nothing is wrong with the deck, and this was written of its cards.
pub record WritesGrouped (chart : Chart) (deck : List ℕ) (old new : Option (List ℕ)) : Type 0 where
  pub cards : List (List ℕ)
  pub fine : IsFine chart deck cards
  pub written : Appends old new (grouped_told chart cards)

-- Why it isn't so: the check of the deck has something to tell; or nothing is wrong with the deck, but memory was wanting or the output can't be
-- written, and the front of what was to be written stands.
pub data EndsGrouped (chart : Chart) (deck : List ℕ) (old new : Option (List ℕ)) (told : Fault) : Type 0 where
  checked : EndsCheck chart (Some deck) old new told → EndsGrouped chart deck old new told
  unwritten : (cards : List (List ℕ)) → IsFine chart deck cards → BreaksOff (grouped_told chart cards) old new told
      → EndsGrouped chart deck old new told

-- The text is a chart that compiles, and nothing is wrong with the deck that was read.
pub record PrintsGrouped (text : List ℕ) (deck old new : Option (List ℕ)) : Type 0 where
  pub compiled : Compilation
  pub compiles : CompilesAs text compiled
  pub read : List ℕ
  pub is_deck : IfSome deck (λ known. read ≡ known)
  pub writes : WritesGrouped compiled.chart read old new

-- Why it isn't so of a chart that compiles and the deck that was read.
pub record EndsListed (compiled : Compilation) (deck old new : Option (List ℕ)) (told : Fault) : Type 0 where
  pub read : List ℕ
  pub is_deck : IfSome deck (λ known. read ≡ known)
  pub ends : EndsGrouped compiled.chart read old new told

-- Why the command didn't end well: the chart is refused, the deck can't be read or memory was wanting, and nothing was written; or the deck was read.
pub data StopsGrouped (text : List ℕ) (deck old new : Option (List ℕ)) (told unreadable : Fault) (Unprinted : Type 0) : Type 0 where
  refused : RefusesChart text told → Unprinted → StopsGrouped text deck old new told unreadable Unprinted
  unread : (compiled : Compilation) → CompilesAs text compiled → told ≡ unreadable → Unprinted
      → StopsGrouped text deck old new told unreadable Unprinted
  memory_wanting : told ≡ fault.Memory → Unprinted → StopsGrouped text deck old new told unreadable Unprinted
  listed : (compiled : Compilation) → CompilesAs text compiled → EndsListed compiled deck old new told
      → StopsGrouped text deck old new told unreadable Unprinted
