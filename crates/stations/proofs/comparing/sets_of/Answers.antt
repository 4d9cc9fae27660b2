use Rattle.std.proofs.Common.{take}
use Rattle.stations.proofs.CollectedWords.{sets-all, sets-more, sets-none}
use Rattle.stations.proofs.comparing.sets_of.Goals as goal

pub loop-place-init : goal.loop-place-init
loop-place-init c = sets-none (take 30 c.args.first.now) (take 30 c.args.second.now)

pub loop-place-preserved : goal.loop-place-preserved
loop-place-preserved c =
    sets-more c.loop-place.place (c.entries_having.result, c.entries_having-in-loop-place.result) (take 30 c.args.first.now) (take 30 c.args.second.now)
    c.loop-place.sets c.loop-place-test.true c.entries_having.ensures c.entries_having-in-loop-place.ensures c.loop-place.invariant

pub returns : goal.returns
returns c =
    sets-all c.loop-place.place (take 30 c.args.first.now) (take 30 c.args.second.now) c.loop-place.sets c.loop-place-test.false
    c.loop-place.invariant
