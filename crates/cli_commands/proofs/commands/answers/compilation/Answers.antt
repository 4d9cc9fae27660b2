use Rattle.std.proofs.lemmas.Result.{err_from_is_err_and}
use Rattle.cli_commands.proofs.CommandsWords.Refusing.{chart_refused}
use Rattle.cli_commands.proofs.commands.answers.compilation.Goals as goal

pub returns-in_err-compile-clause-compiles : goal.returns-in_err-compile-clause-compiles
returns-in_err-compile-clause-compiles c = rw (err_from_is_err_and c.from_residual.result c.from_residual.ensures.1).1 tt

pub returns-in_err-compile-clause-refused : goal.returns-in_err-compile-clause-refused
returns-in_err-compile-clause-refused c =
    let exit = err_from_is_err_and c.from_residual.result c.from_residual.ensures.1 in
    rw exit.1 (chart_refused c.args.chart.now c.in_err-compile.field-0.0 exit.0 c.in_err-compile.ensures.refused exit.2)

pub returns-clause-compiles : goal.returns-clause-compiles
returns-clause-compiles c = record { read = c.in_ok-compile.ensures.read; wired = c.in_ok-compile.ensures.compiled }
