use Rattle.std.proofs.Common.{arith}
use Rattle.storage_units.proofs.ColumnSets.{row-set, row-taken}
use Rattle.storage_units.proofs.columns.put_in_set.Goals as goal

pub returns-then-has : goal.returns-then-has
returns-then-has c other low =
    let place = c.requires in row-set c.args.set c.args.place other c.args.has (omega (arith, place)) c.if-has.true

pub returns-else-has : goal.returns-else-has
returns-else-has c other low =
    let place = c.requires in
    row-taken c.args.set c.args.place other c.args.has (omega (arith, place)) (omega (arith, low)) c.if-has.false
