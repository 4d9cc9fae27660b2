use Rattle.std.proofs.Common.{◌∙◌, refl, sym}
use Rattle.counters.specs.Counters.{Counter, counter_sensed}
use Rattle.net.specs.declared.cycle.Point.TheVariants.{C}
use Rattle.machine.proofs.Marks.{changed-none, changed-past, changed-taken}
use Rattle.machine.proofs.groups.control_marked.Goals as goal

pub loop-place-init : goal.loop-place-init
loop-place-init c cycle picture row = refl

pub loop-place-preserved-then-place-groups : goal.loop-place-preserved-then-place-groups
loop-place-preserved-then-place-groups c cycle picture row =
    rw (c.sense_controls.ensures cycle picture row)
    (changed-taken (λ (group : Counter). counter_sensed group cycle C picture) c.loop-place.left _ _ c.loop-place.groups _
    c.in-Some.ensures.taken.others c.in-Some.ensures.taken.there c.if-place-groups.true)
    ∙ c.loop-place.invariant cycle picture row

pub loop-place-preserved : goal.loop-place-preserved
loop-place-preserved c cycle picture row =
    changed-past (λ (group : Counter). counter_sensed group cycle C picture) c.loop-place.left _ _ c.loop-place.groups
    c.in-Some.ensures.taken.others c.if-place-groups.false
    ∙ c.loop-place.invariant cycle picture row

pub returns : goal.returns
returns c cycle picture row =
    sym
    (changed-none (λ (group : Counter). counter_sensed group cycle C picture) c.loop-place.left c.loop-place.groups (c.take_lowest.ensures.none c.in_default.is))
    ∙ c.loop-place.invariant cycle picture row
