use Rattle.std.proofs.Common.{◌∙◌, ◌*◌, sym, length, false}
use Rattle.std.proofs.lemmas.Nat.{pow_pos}
use Rattle.selectors.proofs.SpreadLemmas.{has_room, none-set, spread-none, spread-more, spread-all, spread-below}
use Rattle.selectors.proofs.spread.spread.Goals as goal

pub returns-then-not-has_any : goal.returns-then-not-has_any
returns-then-not-has_any c =
    let value = sym (none-set c.args.parts c.args.things.now (sym c.has_any.ensures ∙ c.if-not-has_any.true)) in
    record { value = value; below = pow_pos (c.args.parts * length c.args.things.now) }

pub loop-after-init : goal.loop-after-init
loop-after-init c = spread-none c.args.parts c.args.things.now

pub with_parts-bits-requires-clause-fits : goal.with_parts-bits-requires-clause-fits
with_parts-bits-requires-clause-fits c =
    has_room c.args.parts c.loop-after.after c.loop-after.bits c.args.things.now c.loop-after.invariant
    c.loop-after-test.true c.requires.fits

pub loop-after-preserved : goal.loop-after-preserved
loop-after-preserved c =
    spread-more c.args.parts c.loop-after.after c.loop-after.bits c.with_parts-bits.result c.args.things.now false
    c.loop-after-test.true c.loop-after.invariant c.with_parts-bits.ensures

pub returns : goal.returns
returns c =
    let value = spread-all c.args.parts c.loop-after.after c.loop-after.bits c.args.things.now c.loop-after-test.false
    c.loop-after.invariant in
    record { value = value; below = rw value (spread-below c.args.parts c.args.things.now) }
