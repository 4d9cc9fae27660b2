use Rattle.explain_wheel_ledgers.proofs.Accounts.{tells_ledger}
use Rattle.explain_wheel_ledgers.proofs.telling.ledger_of.Goals as goal

pub returns-in-Ok-clause-told : goal.returns-in-Ok-clause-told
returns-in-Ok-clause-told c =
    tells_ledger c.args.setup.now c.args.cards.now c.args.totals.now c.args.ends c.args.page c.args.line c.args.wheel c.args.told.now
    c.in_ok-found.found c.place_printed-printed.result c.in-Ok.text.items c.requires.explained c.in_ok-found.ensures.found
    c.in_ok-found.ensures.page c.in_ok-found.ensures.line c.place_printed-printed.ensures.value c.in-Ok.ensures
