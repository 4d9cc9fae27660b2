use Rattle.match_panels.proofs.DifferencesWords.Jacks.{places-all, places-more, places-none}
use Rattle.match_panels.proofs.differences.between.plug_jacks.Goals as goal

pub loop-place-init : goal.loop-place-init
loop-place-init c = places-none c.args.one.now c.args.other.now

pub loop-place-preserved : goal.loop-place-preserved
loop-place-preserved c = places-more c.args.one.now c.args.other.now c.loop-place.invariant c.plug_at.ensures

pub returns : goal.returns
returns c = places-all c.args.one.now c.args.other.now c.loop-place-test.false c.loop-place.invariant
