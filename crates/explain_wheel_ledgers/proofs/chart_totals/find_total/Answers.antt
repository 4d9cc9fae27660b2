use Rattle.explain_wheel_ledgers.proofs.Lists.{account_at}
use Rattle.explain_wheel_ledgers.proofs.chart_totals.find_total.Goals as goal

pub returns-then-has_place-clause-account : goal.returns-then-has_place-clause-account
returns-then-has_place-clause-account c =
    account_at c.args.totals.now c.loop-total.total-index c.total-item.result c.loop-total-test.true c.total-item.is c.requires
