use Rattle.std.proofs.lemmas.List.Edits.{map_over_more}
use Rattle.net.specs.HubSets.{has_hub}
use Rattle.machine.proofs.rows.sense_all.Goals as goal

pub loop-unit-preserved : goal.loop-unit-preserved
loop-unit-preserved g c =
    rw (c.sense.ensures, ← c.unit-item.is)
    (map_over_more (λ unit. g.U.Unit.sensed unit c.args.cycle c.args.point (has_hub c.args.picture.now)) c.args.units.now
    c.loop-unit.unit-items c.loop-unit.unit-index c.unit-item.result c.loop-unit-test.true c.loop-unit.invariant c.unit-item.is)
