use Rattle.std.proofs.Common.{◌∙◌, sym}
use Rattle.net.specs.HubSets.{has_hub}
use Rattle.machine.proofs.Marks.{changed-none, changed-past, changed-taken}
use Rattle.machine.proofs.marked.sense_marked.Goals as goal

pub loop-place-preserved-then-place-units : goal.loop-place-preserved-then-place-units
loop-place-preserved-then-place-units g c =
    rw c.sense.ensures
    (changed-taken (λ unit. g.U.Unit.sensed unit c.args.cycle c.args.point (has_hub c.args.picture.now)) c.loop-place.left _ _ c.loop-place.units _
    c.in-Some.ensures.taken.others c.in-Some.ensures.taken.there c.if-place-units.true)
    ∙ c.loop-place.invariant

pub loop-place-preserved : goal.loop-place-preserved
loop-place-preserved g c =
    changed-past (λ unit. g.U.Unit.sensed unit c.args.cycle c.args.point (has_hub c.args.picture.now)) c.loop-place.left _ _ c.loop-place.units
    c.in-Some.ensures.taken.others c.if-place-units.false
    ∙ c.loop-place.invariant

pub returns : goal.returns
returns g c =
    sym
    (changed-none (λ unit. g.U.Unit.sensed unit c.args.cycle c.args.point (has_hub c.args.picture.now)) c.loop-place.left c.loop-place.units (c.take_lowest.ensures.none c.in_default.is))
    ∙ c.loop-place.invariant
