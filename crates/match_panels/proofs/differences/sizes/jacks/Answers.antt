use Rattle.std.proofs.Common.{arith}
use Rattle.match_panels.proofs.DifferencesWords.Counting.{jacks-more}
use Rattle.match_panels.proofs.differences.sizes.jacks.Goals as goal

pub loop-place-preserved : goal.loop-place-preserved
loop-place-preserved c = (
  jacks-more c.args.setup.now c.loop-place.invariant.0 c.jacks_at-many.ensures.many,
  omega (arith, c.loop-place.invariant.1, c.jacks_at-many.ensures.few),
  omega (arith, c.loop-place-test.true),
)
