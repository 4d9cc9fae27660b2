-- What a command has done where it ends well, and what it has told where it doesn't. The deck is known where its reader tells its bytes
-- beforehand, and what is written where the writer tells what it holds.
use Rattle.std.specs.Prelude.{◌≡◌, ℕ, List, Option, IfSome}
use Rattle.std.specs.Io.KnownBytes.{Appends}
use Rattle.cli_commands.specs.CommandsWords.Answers.{Answers, AreReplayedPages}
use Rattle.cli_commands.specs.CommandsWords.Refusals.{Refuses}
use Rattle.fault_lines.specs.declared.program_io.command.Command.{Command}
use Rattle.fault_lines.specs.declared.faults.fault.Fault.{Fault}

-- what the command answers on the text and the deck that was read is written after what was there
pub record IsDone (command : Command) (text : List ℕ) (deck old new : Option (List ℕ)) : Type 0 where
  pub read : List ℕ
  pub is_deck : IfSome deck (λ known. read ≡ known)
  pub answer : List ℕ
  pub answers : Answers command text read answer
  pub written : Appends old new answer

-- the command refuses the text and the deck that was read, and this is told of them
pub record IsRefused (command : Command) (text : List ℕ) (deck : Option (List ℕ)) (told : Fault) : Type 0 where
  pub read : List ℕ
  pub is_deck : IfSome deck (λ known. read ≡ known)
  pub refuses : Refuses command text read told

-- The pages of a wiring chart and a deck were printed after what was there.
pub record PrintsReplay (text deck : List ℕ) (old new : Option (List ℕ)) : Type 0 where
  pub answer : List ℕ
  pub pages : AreReplayedPages text deck answer
  pub written : Appends old new answer
