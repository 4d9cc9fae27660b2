use Rattle.std.proofs.Common.{arith}
use Rattle.match_panels.proofs.DifferencesWords.Counting.{lines-all, lines-more}
use Rattle.match_panels.proofs.differences.sizes.stops_in.Goals as goal

pub loop-line-preserved : goal.loop-line-preserved
loop-line-preserved c = (
  lines-more c.args.tape.now c.loop-line.invariant.0 c.stops_at-many.ensures.many,
  omega (arith, c.loop-line.invariant.1, c.stops_at-many.ensures.few),
  omega (arith, c.loop-line-test.true),
)

pub returns-clause-many : goal.returns-clause-many
returns-clause-many c = lines-all c.args.tape.now c.requires c.loop-line-test.false c.loop-line.invariant.0
