use Rattle.std.proofs.Common.{arith}
use Rattle.counters.proofs.SetLanes.{lanes-at, lanes-digits}
use Rattle.counters.proofs.all_rows.entered_after.Goals as goal

pub returns-clause-entered : goal.returns-clause-entered
returns-clause-entered c k near =
    lanes-at c.args.sets.now c.earliest_digits.result c.args.entered k c.earliest_digits.ensures c.requires.sets (omega arith) near

pub returns-clause-digits : goal.returns-clause-digits
returns-clause-digits c =
    lanes-digits c.args.sets.now c.earliest_digits.result c.args.entered c.earliest_digits.ensures (λ i. (c.type_inv.sets i).fits)
    c.requires.digits
