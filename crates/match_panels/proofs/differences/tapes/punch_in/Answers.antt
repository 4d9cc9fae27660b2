use Rattle.std.proofs.Common.{◌∙◌}
use Rattle.match_panels.proofs.DifferencesWords.Stops.{lines-all, lines-more, lines-none}
use Rattle.match_panels.proofs.differences.tapes.punch_in.Goals as goal

pub loop-line-init : goal.loop-line-init
loop-line-init c = lines-none c.args.one.now c.args.other.now c.args.channel

pub punch_at-requires : goal.punch_at-requires
punch_at-requires c = c.loop-line.invariant.lines ∙ c.requires.lines

pub loop-line-preserved : goal.loop-line-preserved
loop-line-preserved c = lines-more c.args.one.now c.args.other.now c.loop-line.invariant c.punch_at.ensures

pub returns : goal.returns
returns c = lines-all c.args.one.now c.args.other.now c.requires.form c.loop-line-test.false c.loop-line.invariant
