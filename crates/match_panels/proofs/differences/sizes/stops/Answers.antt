use Rattle.std.proofs.Common.{arith}
use Rattle.match_panels.proofs.DifferencesWords.Counting.{channels-all, channels-more}
use Rattle.match_panels.proofs.differences.sizes.stops.Goals as goal

pub loop-channel-preserved : goal.loop-channel-preserved
loop-channel-preserved c = (
  channels-more c.args.tape.now c.loop-channel.invariant.0 c.stops_in-many.ensures.many,
  omega (arith, c.loop-channel.invariant.1, c.stops_in-many.ensures.few),
  omega (arith, c.loop-channel-test.true),
)

pub returns-clause-many : goal.returns-clause-many
returns-clause-many c = channels-all c.args.tape.now c.requires c.loop-channel-test.false c.loop-channel.invariant.0
