use Rattle.std.proofs.Common.{refl, arith}
use Rattle.machine.proofs.KeptLatches.{kept-all, kept-past, kept-taken}
use Rattle.machine.proofs.groups.keep_latches.Goals as goal

pub loop-place-preserved : goal.loop-place-preserved
loop-place-preserved c =
    kept-past c.loop-place.left _ _ c.loop-place.latches c.args.groups.now
    c.in-Some.ensures.taken.others
    (omega (arith, c.if-place-lt-GROUPS.false, c.type_inv.groups)) c.loop-place.invariant

pub loop-place-preserved-then-place-lt-GROUPS : goal.loop-place-preserved-then-place-lt-GROUPS
loop-place-preserved-then-place-lt-GROUPS c =
    rw (c.set.ensures, c.latch.ensures)
    (kept-taken c.loop-place.left _ _ c.loop-place.latches c.args.groups.now _ c.index-groups-place.result
    c.in-Some.ensures.taken.others
    (omega (arith, c.if-place-lt-GROUPS.true, c.type_inv.groups)) refl c.loop-place.invariant)

pub returns : goal.returns
returns c = kept-all c.loop-place.left c.loop-place.latches c.args.groups.now (c.take_lowest.ensures.none c.in_default.is) c.loop-place.invariant
