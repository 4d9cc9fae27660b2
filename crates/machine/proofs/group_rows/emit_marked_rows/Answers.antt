use Rattle.std.proofs.Common.{◌∙◌, sym, ap, ◌||◌}
use Rattle.std.proofs.Math.Bool.{or-false}
use Rattle.card_code.specs.Rows.{passing_place}
use Rattle.counters.specs.Counters.{counter_emits}
use Rattle.net.specs.HubRows.{has_row_at}
use Rattle.net.specs.declared.cycle.Point.TheVariants.{Row}
use Rattle.machine.proofs.Marks.{any-none, any-past, any-taken, emitted-more}
use Rattle.machine.proofs.group_rows.emit_marked_rows.Goals as goal

pub loop-place-preserved-then-place-groups : goal.loop-place-preserved-then-place-groups
loop-place-preserved-then-place-groups c row exit =
    emitted-more _ _ _ _ _ (c.emit_rows.ensures row exit)
    (any-taken (λ group. counter_emits group c.args.cycle (Row row) exit) c.loop-place.left _ _ c.args.groups.now c.index-groups-place.result c.in-Some.ensures.taken.others
    c.in-Some.ensures.taken.there c.index-groups-place.is c.if-place-groups.true)
    ∙ c.loop-place.invariant row exit

pub loop-place-preserved : goal.loop-place-preserved
loop-place-preserved c row exit =
    ap (λ b. has_row_at c.loop-place.sets (passing_place row) exit || b)
    (any-past (λ group. counter_emits group c.args.cycle (Row row) exit) c.loop-place.left _ _ c.args.groups.now c.in-Some.ensures.taken.others
    c.if-place-groups.false)
    ∙ c.loop-place.invariant row exit

pub returns : goal.returns
returns c row exit =
    sym
    (ap (λ b. has_row_at c.loop-place.sets (passing_place row) exit || b)
    (any-none (λ group. counter_emits group c.args.cycle (Row row) exit) c.loop-place.left c.args.groups.now (c.take_lowest.ensures.none c.in_default.is))
    ∙ or-false (has_row_at c.loop-place.sets (passing_place row) exit))
    ∙ c.loop-place.invariant row exit
