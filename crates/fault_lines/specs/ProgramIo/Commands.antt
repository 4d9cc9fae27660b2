-- The words of the commands. A word is a command's by its bytes alone, and any other word is no command.
use Rattle.std.specs.Prelude.{◌≢◌, ℕ, List, codes}
use Rattle.fault_lines.specs.declared.program_io.command.Command.{Command}
use Rattle.fault_lines.specs.declared.program_io.command.Command.TheVariants as command

-- the word of a command
abbrev pub word_of : Command → List ℕ
word_of command.Run = codes "run"
word_of command.Check = codes "check"
word_of command.Wire = codes "wire"
word_of command.Replay = codes "replay"
word_of command.Upgrade = codes "upgrade"

-- no command has this word
abbrev pub IsNoCommand : List ℕ → Type 0
IsNoCommand word = (command : Command) → word ≢ word_of command
