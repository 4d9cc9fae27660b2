use Rattle.std.proofs.Common.{◌∙◌}
use Rattle.std.proofs.lemmas.Result.{err_from_is_err_and}
use Rattle.cli_commands.proofs.PanelGuides.Explaining.{texts_refused}
use Rattle.cli_commands.proofs.PanelGuides.LedgerCalls.Texts.{ledger_in_run, ledger_lacking}
use Rattle.cli_commands.specs.PanelGuides.LedgerCalls.Ledgers.{ends_told}
use Rattle.cli_commands.proofs.panel_guides.ledger_calls.answers.told_ledger.Goals as goal

pub returns-in_err-run-clause-refused : goal.returns-in_err-run-clause-refused
returns-in_err-run-clause-refused c =
    let exit = err_from_is_err_and c.from_residual.result c.from_residual.ensures.1 in
    rw exit.1 (texts_refused c.args.text.now c.args.deck.now c.args.place c.in_err-run.field-0.0 exit.0 c.in_err-run.ensures.refused exit.2)

pub returns-in_err-totals-clause-refused : goal.returns-in_err-totals-clause-refused
returns-in_err-totals-clause-refused c =
    let exit = err_from_is_err_and c.from_residual-in_err-totals.result c.from_residual-in_err-totals.ensures.1 in
    rw exit.1 (texts_refused c.args.text.now c.args.deck.now c.args.place c.in_err-totals.field-0.0 exit.0
    (λ not_memory. absurd (not_memory c.in_err-totals.ensures.memory)) exit.2)

pub returns-clause-told : goal.returns-clause-told
returns-clause-told c =
    ledger_in_run c.told_on.result (λ answer. answer.items) c.args.text.now c.args.deck.now c.ends_told.result (ends_told c.args.all) c.args.place
    c.in_ok-run.run' c.setup.result.now c.cards.result.now c.as_slice.result.now c.in_ok-run.ensures.run c.setup.ensures c.cards.ensures
    (c.as_slice.ensures.value ∙ c.in_ok-totals.ensures.totals c.args.text.now) c.ends_told.ensures
    c.told_on.ensures.tells

pub returns-clause-refused : goal.returns-clause-refused
returns-clause-refused c =
    ledger_lacking c.told_on.result c.args.text.now c.args.deck.now c.args.place c.in_ok-run.run' c.setup.result.now c.cards.result.now
    c.in_ok-run.ensures.run c.setup.ensures c.cards.ensures c.told_on.ensures.lacks
