use Rattle.std.proofs.lemmas.Result.{err_from_is_err_and}
use Rattle.cli_commands.proofs.CommandsWords.Refusing.{pages_replayed, replay_refused, wiring_refused}
use Rattle.cli_commands.proofs.commands.answers.replayed.Goals as goal

pub returns-in_err-setup-clause-refused : goal.returns-in_err-setup-clause-refused
returns-in_err-setup-clause-refused c =
    let exit = err_from_is_err_and c.from_residual.result c.from_residual.ensures.1 in
    rw exit.1 (wiring_refused c.args.wiring.now c.args.deck.now c.in_err-setup.field-0.0 exit.0 c.in_err-setup.ensures.fault exit.2)

pub returns-clause-pages : goal.returns-clause-pages
returns-clause-pages c =
    pages_replayed c.printed.result (λ pages. pages.items) c.args.wiring.now c.args.deck.now c.in_ok-setup.setup c.in_ok-setup.ensures.read
    c.printed.ensures.pages

pub returns-clause-refused : goal.returns-clause-refused
returns-clause-refused c =
    replay_refused c.printed.result c.args.wiring.now c.args.deck.now c.in_ok-setup.setup c.in_ok-setup.ensures.read
    c.printed.ensures.refused
