use Rattle.std.proofs.lemmas.Result.{err_from_is_err_and}
use Rattle.cli_commands.proofs.CommandsWords.Refusing.{chart_refused}
use Rattle.cli_matching.proofs.Refusing.{wiring_refused}
use Rattle.cli_matching.specs.Panels.{of_chart, of_wiring}
use Rattle.cli_matching.proofs.panels.panels_of.Goals as goal

pub returns-in_err-compiled-clause-refused : goal.returns-in_err-compiled-clause-refused
returns-in_err-compiled-clause-refused c =
    let exit = err_from_is_err_and c.from_residual.result c.from_residual.ensures.1 in
    rw exit.1 (λ not_memory. of_chart
    (chart_refused c.args.chart.now c.in_err-compiled.field-0.0 exit.0 c.in_err-compiled.ensures.refused exit.2 not_memory))

pub returns-in_err-setup-clause-refused : goal.returns-in_err-setup-clause-refused
returns-in_err-setup-clause-refused c =
    let exit = err_from_is_err_and c.from_residual-in_err-setup.result c.from_residual-in_err-setup.ensures.1 in
    rw exit.1 (λ not_memory. of_wiring c.in_ok-compiled.compiled
    (record { read = c.in_ok-compiled.ensures.read; wired = c.in_ok-compiled.ensures.compiled })
    (wiring_refused c.args.wiring.now c.in_err-setup.field-0.0 exit.0 c.in_err-setup.ensures.fault exit.2 not_memory))

pub returns-clause-are : goal.returns-clause-are
returns-clause-are c = record {
  compiles = record { read = c.in_ok-compiled.ensures.read; wired = c.in_ok-compiled.ensures.compiled };
  reads = c.in_ok-setup.ensures.read;
  in_version = c.version_of_text.ensures c.in_ok-setup.setup c.in_ok-setup.ensures.read;
}
