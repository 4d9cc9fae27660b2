-- What the command that shows all bad cards has done where it ends well, and what it has told where it doesn't. The deck is known where its reader
-- tells its bytes beforehand, and what is written where the writer tells what it holds.
use Rattle.std.specs.Prelude.{◌≡◌, ℕ, List, ◌++◌, Option, IfSome}
use Rattle.std.specs.Io.KnownBytes.{Appends}
use Rattle.cli_decks.specs.CheckCalls.DeckChecks.Shown.{IsTooLong, ShowsFaults, ShowsNone}
use Rattle.cli_decks.specs.CheckCalls.Large.{TellsLarge}
use Rattle.cli_commands.specs.CommandsWords.Answers.{CompilesAs}
use Rattle.cli_commands.specs.CommandsWords.Refusals.{RefusesChart}
use Rattle.compile407.specs.Compilation.{Compilation}
use Rattle.fault_lines.specs.declared.faults.fault.Fault.{Fault}
use Rattle.fault_lines.specs.declared.faults.fault.Fault.TheVariants as fault

-- The text is a chart that compiles, nothing is told of the deck that was read, and `ok` was written after what was there, and which cards there
-- are.
pub record ShowsOk (text : List ℕ) (deck old new : Option (List ℕ)) : Type 0 where
  pub compiled : Compilation
  pub compiles : CompilesAs text compiled
  pub read : List ℕ
  pub is_deck : IfSome deck (λ known. read ≡ known)
  pub answer : List ℕ
  pub shows : ShowsNone compiled.chart read answer
  pub written : Appends old new answer

-- The faults of the deck that was read are shown, and this is the first of them; and it is told how large the totals are that their lines have no
-- room for.
pub record ShowsBad (compiled : Compilation) (deck old new : Option (List ℕ)) (told : Fault) : Type 0 where
  pub read : List ℕ
  pub is_deck : IfSome deck (λ known. read ≡ known)
  pub answer : List ℕ
  pub shows : ShowsFaults compiled.chart read told answer
  pub large : List ℕ
  pub tells : TellsLarge compiled.chart read large
  pub written : Appends old new (answer ++ large)

-- The deck that was read has too many cards, and that is told.
pub record IsRefusedDeck (deck : Option (List ℕ)) (told : Fault) : Type 0 where
  pub read : List ℕ
  pub is_deck : IfSome deck (λ known. read ≡ known)
  pub long : IsTooLong read
  pub named : told ≡ fault.Whole 3

-- Why it wasn't: the chart is refused, the deck can't be read or has too many cards, or memory was wanting, and nothing was written; or faults of
-- the deck are shown; or the output can't be written, and a part may have been.
pub data StopsShowing (text : List ℕ) (deck old new : Option (List ℕ)) (told unreadable : Fault) (Unprinted : Type 0) : Type 0 where
  refused : RefusesChart text told → Unprinted → StopsShowing text deck old new told unreadable Unprinted
  unread : (compiled : Compilation) → CompilesAs text compiled → told ≡ unreadable → Unprinted
      → StopsShowing text deck old new told unreadable Unprinted
  too_long : (compiled : Compilation) → CompilesAs text compiled → IsRefusedDeck deck told → Unprinted
      → StopsShowing text deck old new told unreadable Unprinted
  shown : (compiled : Compilation) → CompilesAs text compiled → ShowsBad compiled deck old new told
      → StopsShowing text deck old new told unreadable Unprinted
  unwritten : told ≡ fault.Write → StopsShowing text deck old new told unreadable Unprinted
  memory_wanting : told ≡ fault.Memory → StopsShowing text deck old new told unreadable Unprinted
