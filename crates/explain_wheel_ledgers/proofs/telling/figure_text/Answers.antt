use Rattle.explain_wheel_ledgers.proofs.Accounts.{is_account_told, is_figure_text}
use Rattle.explain_wheel_ledgers.proofs.telling.figure_text.Goals as goal

pub write_printed-requires-clause-account : goal.write_printed-requires-clause-account
write_printed-requires-clause-account c =
    is_account_told c.find_total.result c.args.place c.account_told-account.result c.account_told-account.ensures
    c.find_total.ensures.account c.requires.place

pub returns-in-Ok : goal.returns-in-Ok
returns-in-Ok c =
    is_figure_text c.args.setup.now c.args.cards.now c.args.ends c.args.found c.args.wheel _ c.find_total.result c.args.place
    c.account_told-account.result c.in_ok-text.text.items _ c.find_total.ensures.value c.account_told-account.ensures
    c.in_ok-text.ensures c.in-Ok.ensures
