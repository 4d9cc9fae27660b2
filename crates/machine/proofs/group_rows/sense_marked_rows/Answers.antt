use Rattle.std.proofs.Common.{◌∙◌, sym}
use Rattle.counters.specs.Counters.{Counter, counter_sensed}
use Rattle.net.specs.RowSets.{after_rows, pictures_of}
use Rattle.machine.proofs.Marks.{changed-none, changed-past, changed-taken}
use Rattle.machine.proofs.group_rows.sense_marked_rows.Goals as goal

pub loop-place-preserved-then-place-groups : goal.loop-place-preserved-then-place-groups
loop-place-preserved-then-place-groups c =
    rw c.sense_rows.ensures
    (changed-taken (λ (group : Counter). after_rows counter_sensed c.args.cycle (pictures_of c.args.pictures.now) group) c.loop-place.left _ _ c.loop-place.groups _
    c.in-Some.ensures.taken.others c.in-Some.ensures.taken.there c.if-place-groups.true)
    ∙ c.loop-place.invariant

pub loop-place-preserved : goal.loop-place-preserved
loop-place-preserved c =
    changed-past (λ (group : Counter). after_rows counter_sensed c.args.cycle (pictures_of c.args.pictures.now) group) c.loop-place.left _ _ c.loop-place.groups
    c.in-Some.ensures.taken.others c.if-place-groups.false
    ∙ c.loop-place.invariant

pub returns : goal.returns
returns c =
    sym
    (changed-none (λ (group : Counter). after_rows counter_sensed c.args.cycle (pictures_of c.args.pictures.now) group) c.loop-place.left c.loop-place.groups (c.take_lowest.ensures.none c.in_default.is))
    ∙ c.loop-place.invariant
