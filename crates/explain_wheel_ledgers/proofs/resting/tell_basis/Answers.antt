use Rattle.explain_wheel_ledgers.proofs.Behind.{tells_basis}
use Rattle.explain_wheel_ledgers.proofs.resting.tell_basis.Goals as goal

pub returns-in-Ok-clause-told : goal.returns-in-Ok-clause-told
returns-in-Ok-clause-told c =
    tells_basis c.args.setup.now c.args.cards.now c.args.totals.now c.args.ends c.args.page c.args.line c.args.told.now
    c.in_ok-found.found c.as_slice-ways.result.now c.in-Ok.text.items c.in_ok-found.ensures.found
    c.in_ok-found.ensures.page c.in_ok-found.ensures.line c.as_slice-ways.ensures.value c.in-Ok.ensures
