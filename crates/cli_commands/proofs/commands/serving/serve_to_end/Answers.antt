use Rattle.std.proofs.Common.{◌∙◌, ap}
use Rattle.cli_commands.proofs.CommandsWords.Outcomes.{front_by_word}
use Rattle.cli_commands.proofs.CommandsWords.Streaming.{device_by_word}
use Rattle.fault_lines.specs.ProgramIo.Commands.{word_of}
use Rattle.cli_commands.proofs.commands.serving.serve_to_end.Goals as goal

pub returns-clause-device : goal.returns-clause-device
returns-clause-device g c = λ four.
    device_by_word c.args.command.now c.in-Some.known c.in-Some.ensures.found (c.serve_command.ensures.device four)

pub returns-clause-front : goal.returns-clause-front
returns-clause-front g c = λ other.
    front_by_word (g.R.Read.remaining c.args.deck) c.args.command.now c.in-Some.known c.in-Some.ensures.found
    (c.serve_command.ensures.front (λ is. other (c.in-Some.ensures.found ∙ ap word_of is)))
