use Rattle.std.proofs.Common.{◌+◌, ◌<◌, ◌≤◌, arith, refl, subst, sym, true≢false}
use Rattle.hubs.specs.declared.hub.Hub.{Hub}
use Rattle.hubs.specs.SetupsWords.Wiring.{HasWire}
use Rattle.readback_panels.specs.Lowest.{hub_in}
use Rattle.readback_panels.proofs.Lowest.{lowest-next, none-next}
use Rattle.readback_panels.proofs.hub_rows.lowest_entry.Goals as goal

pub loop-place-init : goal.loop-place-init
loop-place-init c = λ number from to. absurd (omega (arith, from, to))

pub loop-place-preserved : goal.loop-place-preserved
loop-place-preserved c =
    none-next {passes = λ number. HasWire c.args.setup.now c.args.exit (hub_in c.args.row number)} {place = c.loop-place.place} c.loop-place.invariant
    (λ leads. true≢false (sym (c.if-has.ensures.value.1 (subst (λ (hub : Hub). HasWire c.args.setup.now c.args.exit hub) (sym c.hub.ensures) leads))))

pub returns-then-has-clause-found : goal.returns-then-has-clause-found
returns-then-has-clause-found c =
    lowest-next {row = c.args.row} {passes = λ number. HasWire c.args.setup.now c.args.exit (hub_in c.args.row number)} {place = c.loop-place.place}
    (subst (λ n. c.loop-place.place < n) c.last-place-end.ensures c.loop-place-test.true) c.loop-place.invariant
    (subst (λ (hub : Hub). HasWire c.args.setup.now c.args.exit hub) c.hub.ensures (c.if-has.ensures.value.0 refl))

pub returns-clause-none : goal.returns-clause-none
returns-clause-none c = λ number from to.
    c.loop-place.invariant number from
    (omega (arith, subst (λ n. number ≤ n) (sym c.last-place-end.ensures) to, c.loop-place-test.false))
