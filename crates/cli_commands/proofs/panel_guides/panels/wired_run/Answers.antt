use Rattle.std.proofs.lemmas.Result.{err_from_is_err_and}
use Rattle.cli_commands.proofs.CommandsWords.Refusing.{wiring_refused}
use Rattle.cli_commands.specs.CommandsWords.Refusals.{punches}
use Rattle.fault_lines.proofs.ProgramIo.Refusing.{deck_refused}
use Rattle.cli_commands.proofs.panel_guides.panels.wired_run.Goals as goal

pub returns-in_err-setup-clause-refused : goal.returns-in_err-setup-clause-refused
returns-in_err-setup-clause-refused c =
    let exit = err_from_is_err_and c.from_residual.result c.from_residual.ensures.1 in
    rw exit.1 (wiring_refused c.args.wiring.now c.args.deck.now c.in_err-setup.field-0.0 exit.0 c.in_err-setup.ensures.fault exit.2)

pub returns-in_err-cards-clause-refused : goal.returns-in_err-cards-clause-refused
returns-in_err-cards-clause-refused c =
    let exit = err_from_is_err_and c.from_residual-in_err-cards.result c.from_residual-in_err-cards.ensures.1 in
    rw exit.1 (λ not_memory. punches c.in_ok-setup.setup c.in_ok-setup.ensures.read
    (deck_refused c.args.deck.now c.in_err-cards.field-0.0 exit.0 c.in_err-cards.ensures.fault exit.2 not_memory))
