use Rattle.std.proofs.lemmas.Result.{err_from_is_err_and}
use Rattle.cli_matching.proofs.Refusing.{wiring_refused}
use Rattle.cli_matching.proofs.chart_calls.found.setup_of.Goals as goal

pub returns-in_err-read_setup-clause-refused : goal.returns-in_err-read_setup-clause-refused
returns-in_err-read_setup-clause-refused c =
    let exit = err_from_is_err_and c.from_residual.result c.from_residual.ensures.1 in
    rw exit.1 (wiring_refused c.args.wiring.now c.in_err-read_setup.field-0.0 exit.0 c.in_err-read_setup.ensures.fault exit.2)
