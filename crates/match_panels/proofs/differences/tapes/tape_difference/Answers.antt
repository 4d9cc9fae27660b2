use Rattle.std.proofs.Common.{◌∙◌}
use Rattle.match_panels.proofs.DifferencesWords.Stops.{channels-more, channels-none, tape-whole}
use Rattle.match_panels.proofs.differences.tapes.tape_difference.Goals as goal

pub loop-channel-init : goal.loop-channel-init
loop-channel-init c = channels-none c.args.one.now c.args.other.now

pub punch_in-requires-clause-lines : goal.punch_in-requires-clause-lines
punch_in-requires-clause-lines c = c.loop-channel.invariant.lines ∙ c.bare_tape-left.ensures.lines

pub loop-channel-preserved : goal.loop-channel-preserved
loop-channel-preserved c = channels-more c.args.one.now c.args.other.now c.loop-channel.invariant c.punch_in.ensures

pub returns : goal.returns
returns c =
    tape-whole c.args.one.now c.args.other.now c.bare_tape-left.result c.loop-channel.left c.bare_tape-left.ensures.form
    c.loop-channel-test.false c.bare_tape-left.ensures.lines c.bare_tape-left.ensures.first c.bare_tape-left.ensures.overflow
    c.bare_tape-left.ensures.stops c.loop-channel.invariant
