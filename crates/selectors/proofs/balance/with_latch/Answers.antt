use Rattle.selectors.proofs.BalanceLemmas.{row-cleared, row-joined}
use Rattle.selectors.proofs.balance.with_latch.Goals as goal

pub returns-then-latch : goal.returns-then-latch
returns-then-latch c latches long is =
    row-joined c.args.row c.args.place c.args.latch latches c.if-latch.true c.ranges.row.fits long c.requires is

pub returns-else-latch : goal.returns-else-latch
returns-else-latch c latches long is =
    row-cleared c.args.row c.args.place c.args.latch latches c.if-latch.false c.ranges.row.fits long c.requires is
