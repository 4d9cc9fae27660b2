use Rattle.std.proofs.Common.{refl}
use Rattle.wire_chart.proofs.Joining.{more_to, all_to}
use Rattle.wire_chart.proofs.version.couples_to_any.Goals as goal

pub loop-number-preserved : goal.loop-number-preserved
loop-number-preserved c =
    more_to c.args.setup.now c.args.exit c.loop-number.number c.loop-number.invariant (c.if-couples_to.ensures.none refl)

pub returns-clause-none : goal.returns-clause-none
returns-clause-none c = λ none.
    all_to c.args.setup.now c.args.exit c.loop-number.number c.loop-number-test.false c.loop-number.invariant
