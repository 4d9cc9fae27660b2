use Rattle.std.proofs.Common.{◌∙◌, sym, ap, ◌||◌}
use Rattle.std.proofs.Math.Bool.{or-false}
use Rattle.net.specs.HubSets.{has_hub}
use Rattle.machine.proofs.Marks.{any-none, any-past, any-taken, emitted-more}
use Rattle.machine.proofs.marked.emit_marked.Goals as goal

pub loop-place-preserved-then-place-units : goal.loop-place-preserved-then-place-units
loop-place-preserved-then-place-units g c exit =
    emitted-more _ _ _ _ _ (c.emit.ensures exit)
    (any-taken (λ unit. g.U.Unit.emits unit c.args.cycle c.args.point exit) c.loop-place.left _ _ c.args.units.now c.index-units-place.result c.in-Some.ensures.taken.others
    c.in-Some.ensures.taken.there c.index-units-place.is c.if-place-units.true)
    ∙ c.loop-place.invariant exit

pub loop-place-preserved : goal.loop-place-preserved
loop-place-preserved g c exit =
    ap (λ b. has_hub c.loop-place.exits exit || b)
    (any-past (λ unit. g.U.Unit.emits unit c.args.cycle c.args.point exit) c.loop-place.left _ _ c.args.units.now c.in-Some.ensures.taken.others
    c.if-place-units.false)
    ∙ c.loop-place.invariant exit

pub returns : goal.returns
returns g c exit =
    sym
    (ap (λ b. has_hub c.loop-place.exits exit || b)
    (any-none (λ unit. g.U.Unit.emits unit c.args.cycle c.args.point exit) c.loop-place.left c.args.units.now (c.take_lowest.ensures.none c.in_default.is))
    ∙ or-false (has_hub c.loop-place.exits exit))
    ∙ c.loop-place.invariant exit
