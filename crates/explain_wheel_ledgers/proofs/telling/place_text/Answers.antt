use Rattle.explain_wheel_ledgers.proofs.Accounts.{is_account_kept, is_account_told, is_place_text}
use Rattle.explain_wheel_ledgers.proofs.telling.place_text.Goals as goal

pub ledger_before-requires-clause-has : goal.ledger_before-requires-clause-has
ledger_before-requires-clause-has c = c.requires.places.has

pub ledger_before-requires-clause-account : goal.ledger_before-requires-clause-account
ledger_before-requires-clause-account c =
    is_account_told c.find_total-total.result c.args.place c.account_told-account.result c.account_told-account.ensures c.find_total-total.ensures.account
    c.requires.place

pub write_ledger-requires : goal.write_ledger-requires
write_ledger-requires c =
    is_account_kept c.args.setup.now c.args.cards.now c.args.found.passed c.args.ends c.account_told-account.result c.in_ok-ledger.ledger
    c.in_ok-ledger.ensures
    (is_account_told c.find_total-total.result c.args.place c.account_told-account.result c.account_told-account.ensures c.find_total-total.ensures.account
    c.requires.place)

pub returns-in-Ok : goal.returns-in-Ok
returns-in-Ok c =
    is_place_text c.args.setup.now c.args.cards.now c.args.ends c.args.found _ c.find_total-total.result c.args.place
    c.account_told-account.result _ c.in_ok-ledger.ledger _ _ c.find_total-total.ensures.value c.account_told-account.ensures c.title_told-title.ensures
    c.in_ok-ledger.ensures c.new-text.ensures.items c.in-Ok.ensures
