use Rattle.std.proofs.lemmas.Result.{err_from_is_err_and}
use Rattle.cli_commands.proofs.PanelGuides.PanelFaults.{wiring_refused_for_any}
use Rattle.cli_commands.specs.PanelGuides.Panels.{wired}
use Rattle.cli_commands.proofs.panel_guides.panels.check_wired.Goals as goal

pub returns-in_err-read_setup-clause-refused : goal.returns-in_err-read_setup-clause-refused
returns-in_err-read_setup-clause-refused c =
    let exit = err_from_is_err_and c.from_residual.result c.from_residual.ensures.1 in
    rw exit.1 (wiring_refused_for_any c.args.text.now c.in_err-read_setup.field-0.0 exit.0 c.requires c.in_err-read_setup.ensures.fault exit.2)

pub returns-clause-good : goal.returns-clause-good
returns-clause-good c = wired c.requires c.in_ok-read_setup.field-0 c.in_ok-read_setup.ensures.read
