use Rattle.std.proofs.Common.{arith}
use Rattle.machine_sets.proofs.SpreadsWords.PassLemmas.{not-other, nothing-passed, passed-at, same-at, shut-passed}
use Rattle.machine_sets.proofs.spreads.passing.pass.Goals as goal

pub returns-clause-passed : goal.returns-clause-passed
returns-clause-passed c place row =
    passed-at c.args.digits.now c.args.zones.now c.args.sets.now c.args.contact.to c.args.contact.from place row c.closed_rows.result
    (omega (arith, c.requires.to, c.told-sets)) (c.closed_rows.ensures row)

pub returns-clause-same : goal.returns-clause-same
returns-clause-same c none place row =
    same-at c.args.sets.now c.args.contact.to _ place row (not-other _ _ none)

pub returns-then-near-eq0-clause-passed : goal.returns-then-near-eq0-clause-passed
returns-then-near-eq0-clause-passed c place row =
    nothing-passed c.args.digits.now c.args.zones.now c.args.sets.now c.args.contact place row c.if-near-eq0.true

pub returns-then-passed-eq0-clause-passed : goal.returns-then-passed-eq0-clause-passed
returns-then-passed-eq0-clause-passed c place row =
    shut-passed c.args.digits.now c.args.zones.now c.args.sets.now c.args.contact place row c.closed_rows.result
    (c.closed_rows.ensures row) c.if-passed-eq0.true
