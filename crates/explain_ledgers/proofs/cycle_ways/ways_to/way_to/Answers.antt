use Rattle.std.proofs.Common.{◌<◌, length, arith, get_or}
use Rattle.std.proofs.lemmas.Grind.{common_steps}
use Rattle.std.proofs.lemmas.List.{get_or_default}
use Rattle.net.specs.HubSets.{has_hub}
use Rattle.machine.specs.Kept.{nothing_kept}
use Rattle.machine.specs.declared.kept.KeptPoint.{KeptPoint}
use Rattle.explain_ledgers.proofs.CycleWays.Points.{points-tell}
use Rattle.explain_ledgers.proofs.cycle_ways.ways_to.way_to.Goals as goal

pub returns : goal.returns
returns c deck passed is =
    let points = c.args.points.now in
    let point : KeptPoint = get_or points c.args.place c.index-points-place.result in
    let low = c.requires in
    let within : c.args.place < length points = grind (arith, common_steps) in
    points-tell c.way_to.result c.args.setup.now deck passed c.args.points.now is c.args.place low c.args.hub point
    (get_or_default points c.args.place c.index-points-place.result nothing_kept within)
    (c.way_to.ensures.way (has_hub point.exits) c.of-ways.ensures) (c.way_to.ensures.found (has_hub point.exits) c.of-ways.ensures)
