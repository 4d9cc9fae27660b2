use Rattle.std.specs.Prelude.{string_bytes}
use Rattle.cli_commands.proofs.CommandsWords.Refusing.{wiring_written}
use Rattle.cli_commands.proofs.commands.answers.wiring_chart.Goals as goal

pub returns-clause-written : goal.returns-clause-written
returns-clause-written c =
    wiring_written c.written.result string_bytes c.args.chart.now c.in_ok-compiled.compiled c.setup.result.now c.setup.ensures.value
    c.in_ok-compiled.ensures.compiles c.written.ensures.written
