use Rattle.std.proofs.Common.{arith}
use Rattle.match_panels.proofs.DifferencesWords.RowWires.{exits-all, exits-more}
use Rattle.match_panels.proofs.differences.sizes.wires.Goals as goal

pub loop-number-preserved : goal.loop-number-preserved
loop-number-preserved c = (
  exits-more c.args.setup.now c.loop-number.invariant.0 c.wires_from-many.ensures.many,
  omega (arith, c.loop-number.invariant.1, c.wires_from-many.ensures.few),
  omega (arith, c.loop-number-test.true),
)

pub returns-clause-many : goal.returns-clause-many
returns-clause-many c = exits-all c.args.setup.now c.known-its.ensures.wires c.loop-number-test.false c.loop-number.invariant.0
