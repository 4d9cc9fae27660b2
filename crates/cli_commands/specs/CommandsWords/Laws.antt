-- Laws of what commands answer.
use Rattle.std.specs.Prelude.{ℕ, List}
use Rattle.cli_commands.specs.CommandsWords.Answers.{Answers}
use Rattle.cli_commands.specs.CommandsWords.Refusals.{Refuses}
use Rattle.fault_lines.specs.declared.program_io.command.Command.{Command}
use Rattle.fault_lines.specs.declared.faults.fault.Fault.{Fault}

-- What a command answers it doesn't refuse.
abbrev pub AnsweredTextsAreNotRefused : Type 0
AnsweredTextsAreNotRefused =
    (command : Command) (text deck answer : List ℕ) (told : Fault) → Answers command text deck answer → ¬ Refuses command text deck told
