use Rattle.std.proofs.Common.{◌∙◌, sym}
use Rattle.machine.proofs.Marks.{changed-none, changed-past, changed-taken}
use Rattle.machine.proofs.marked.end_marked.Goals as goal

pub loop-place-preserved-then-place-units : goal.loop-place-preserved-then-place-units
loop-place-preserved-then-place-units g c =
    rw c.end_cycle.ensures
    (changed-taken (λ unit. g.U.Unit.ended unit c.args.cycle) c.loop-place.left _ _ c.loop-place.units _
    c.in-Some.ensures.taken.others c.in-Some.ensures.taken.there c.if-place-units.true)
    ∙ c.loop-place.invariant

pub loop-place-preserved : goal.loop-place-preserved
loop-place-preserved g c =
    changed-past (λ unit. g.U.Unit.ended unit c.args.cycle) c.loop-place.left _ _ c.loop-place.units
    c.in-Some.ensures.taken.others c.if-place-units.false
    ∙ c.loop-place.invariant

pub returns : goal.returns
returns g c =
    sym
    (changed-none (λ unit. g.U.Unit.ended unit c.args.cycle) c.loop-place.left c.loop-place.units (c.take_lowest.ensures.none c.in_default.is))
    ∙ c.loop-place.invariant
