use Rattle.std.proofs.Common.{◌∙◌, ◌*◌, ◌+ℤ◌, ℤ, refl, sym, ap₂, subst}
use Rattle.card_code.specs.MostCards.{most_cards}
use Rattle.report_misfits.specs.HelperTotals.{IsKept, IsWithin, above_amounts}
use Rattle.report_misfits.specs.OpenTotals.{with_value}
use Rattle.report_misfits.specs.declared.open_total.OpenTotal.{OpenTotal}
use Rattle.report_misfits.proofs.Pending.{pending-read, place-within, settled-holds, settled-next}
use Rattle.report_misfits.proofs.open_total.add_pending.Goals as goal

pub loop-k-init : goal.loop-k-init
loop-k-init c = record { done = refl; long = refl }

pub bounds-amounts-place : goal.bounds-amounts-place
bounds-amounts-place c =
    place-within c.args.totals.now c.args.places.now c.args.amounts.now c.loop-k.k c.from-place.result c.index-totals-k.result
    c.requires.numbered c.loop-k-test.true c.from-place.ensures

pub add-requires : goal.add-requires
add-requires c =
    let within = place-within c.args.totals.now c.args.places.now c.args.amounts.now c.loop-k.k c.from-place.result c.index-totals-k.result
    c.requires.numbered c.loop-k-test.true c.from-place.ensures in
    let read = pending-read c.args.amounts.now c.from-place.result c.index-amounts-place.result within c.index-amounts-place.is in
    let kept = settled-holds (IsKept most_cards) c.args.totals.now c.loop-k.totals c.args.places.now c.args.amounts.now c.loop-k.k
    c.from-place.result c.index-totals-k.result c.requires.kept c.requires.numbered c.loop-k-test.true c.index-totals-k.is c.from-place.ensures
    c.loop-k.invariant in
    subst (λ (total : OpenTotal). IsWithin (most_cards * above_amounts) (total.sum +ℤ c.index-amounts-place.result.pending)) c.index-totals-k.is
    (subst (λ (pending : ℤ). IsWithin (most_cards * above_amounts) (c.index-totals-k.result.sum +ℤ pending)) read kept.small)

pub loop-k-preserved : goal.loop-k-preserved
loop-k-preserved c =
    let within = place-within c.args.totals.now c.args.places.now c.args.amounts.now c.loop-k.k c.from-place.result c.index-totals-k.result
    c.requires.numbered c.loop-k-test.true c.from-place.ensures in
    let read = pending-read c.args.amounts.now c.from-place.result c.index-amounts-place.result within c.index-amounts-place.is in
    settled-next c.args.totals.now c.loop-k.totals c.args.places.now c.args.amounts.now c.loop-k.k c.from-place.result
    c.index-totals-k.result _
    c.requires.numbered
    c.loop-k-test.true
    c.index-totals-k.is
    c.from-place.ensures
    c.loop-k.invariant
    (c.add.ensures ∙ ap₂ with_value (sym read) (sym c.index-totals-k.is))
