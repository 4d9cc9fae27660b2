use Rattle.std.proofs.Common.{◌≡◌, ◌∙◌, ◌*◌, ◌+◌, sym, ap, ap₂, subst, length, map}
use Rattle.std.specs.List.{All, refill}
use Rattle.std.proofs.lemmas.List.Elements.{All-weaker}
use Rattle.card_code.specs.MostCards.{most_cards}
use Rattle.report_misfits.specs.HelperAmounts.{IsGoodAmount}
use Rattle.report_misfits.specs.HelperPending.{emptied, settled, taking_card}
use Rattle.report_misfits.specs.HelperSums.{AreKeptSums}
use Rattle.report_misfits.specs.HelperTotals.{IsKept, IsWithin, above_amounts}
use Rattle.report_misfits.specs.OpenTotals.{closed_to}
use Rattle.report_misfits.proofs.Bounds.{all_wider, wider}
use Rattle.report_misfits.proofs.InPlace.{none-closed}
use Rattle.report_misfits.proofs.Pending.{length-settled, none-emptied, settled-none, settled-taken}
use Rattle.report_misfits.proofs.Taking.{room_for, refilled, refilled_whole, sums_closed, sums_taken, told_after, open_after}
use Rattle.report_misfits.proofs.open_sums.OpenSums.take.Goals as goal

pub take_card-requires-clause-good : goal.take_card-requires-clause-good
take_card-requires-clause-good c =
    subst (All (λ amount. IsGoodAmount amount.field)) (sym c.as_mut_slice.ensures.value) c.self.invariant.good

pub take_card-requires-clause-little : goal.take_card-requires-clause-little
take_card-requires-clause-little c =
    subst (All (λ amount. IsWithin (most_cards * above_amounts) amount.pending)) (sym c.as_mut_slice.ensures.value)
    (All-weaker (λ amount. IsWithin (c.self.inside.cards * above_amounts) amount.pending)
    (λ amount. IsWithin (most_cards * above_amounts) amount.pending)
    (λ amount is. wider c.self.inside.cards most_cards amount.pending c.self.invariant.few is) c.self.inside.amounts.items c.self.invariant.little)

pub invariant_of-self : goal.invariant_of-self
invariant_of-self c =
    let items = c.self.inside.totals.items in
    let places = c.self.inside.places.items in
    let amounts = c.self.inside.amounts.items in
    let card = c.args.card.now in
    let taken = refilled (taking_card card) amounts c.as_mut_slice.result.now c.take_card.new.amounts c.as_mut_slice.ensures.value
    c.take_card.ensures in
    let kept = sums_taken c.self.inside.cards card items places amounts c.self.invariant
    (room_for c.self.inside.cards c.args.self.now (ap (λ v. v.cards) c.self.view_is) c.requires) in
    subst (λ some. AreKeptSums items places some (c.self.inside.cards + 1)) (sym taken) kept

pub returns-then-ended-eq0-clause-goes_on : goal.returns-then-ended-eq0-clause-goes_on
returns-then-ended-eq0-clause-goes_on c = λ so_far are.
    let items = c.self.inside.totals.items in
    let places = c.self.inside.places.items in
    let amounts = c.self.inside.amounts.items in
    let card = c.args.card.now in
    let taken = refilled (taking_card card) amounts c.as_mut_slice.result.now c.take_card.new.amounts c.as_mut_slice.ensures.value
    c.take_card.ensures in
    let shown = settled items places (map (taking_card card) amounts) in
    open_after c.args.chart.now.lines so_far card c.args.self.now (settled items places amounts) shown _ c.ended_after-ended.result _
    are
    (ap (λ v. v.totals) c.self.view_is)
    (settled-taken card items places amounts c.self.invariant.numbered)
    c.ended_after-ended.ensures.value
    (ap (settled items places) taken ∙ none-closed shown c.ended_after-ended.result c.if-ended-eq0.true)

pub settle-requires-clause-kept : goal.settle-requires-clause-kept
settle-requires-clause-kept c =
    let items = c.self.inside.totals.items in
    let places = c.self.inside.places.items in
    let amounts = c.self.inside.amounts.items in
    let card = c.args.card.now in
    let taken = refilled (taking_card card) amounts c.as_mut_slice.result.now c.take_card.new.amounts c.as_mut_slice.ensures.value
    c.take_card.ensures in
    let kept = sums_taken c.self.inside.cards card items places amounts c.self.invariant
    (room_for c.self.inside.cards c.args.self.now (ap (λ v. v.cards) c.self.view_is) c.requires) in
    let lent : settled c.as_mut_slice-2.result.now c.as_slice.result.now c.as_mut_slice-3.result.now ≡ settled items places (map (taking_card card) amounts)
    = (λ i. settled (c.as_mut_slice-2.ensures.value i) (c.as_slice.ensures.value i) ((c.as_mut_slice-3.ensures.value ∙ taken) i)) in
    subst (All (IsKept most_cards)) (sym lent)
    (all_wider (c.self.inside.cards + 1) most_cards (settled items places (map (taking_card card) amounts)) kept.few kept.kept)

pub settle-requires-clause-numbered : goal.settle-requires-clause-numbered
settle-requires-clause-numbered c =
    let items = c.self.inside.totals.items in
    let places = c.self.inside.places.items in
    let amounts = c.self.inside.amounts.items in
    let card = c.args.card.now in
    let taken = refilled (taking_card card) amounts c.as_mut_slice.result.now c.take_card.new.amounts c.as_mut_slice.ensures.value
    c.take_card.ensures in
    let kept = sums_taken c.self.inside.cards card items places amounts c.self.invariant
    (room_for c.self.inside.cards c.args.self.now (ap (λ v. v.cards) c.self.view_is) c.requires) in
    rw (c.as_mut_slice-2.ensures.value, c.as_slice.ensures.value, c.as_mut_slice-3.ensures.value, taken) kept.numbered

pub first_misfit_to-misfit-requires-clause-kept : goal.first_misfit_to-misfit-requires-clause-kept
first_misfit_to-misfit-requires-clause-kept c =
    let items = c.self.inside.totals.items in
    let places = c.self.inside.places.items in
    let amounts = c.self.inside.amounts.items in
    let card = c.args.card.now in
    let taken = refilled (taking_card card) amounts c.as_mut_slice.result.now c.take_card.new.amounts c.as_mut_slice.ensures.value
    c.take_card.ensures in
    let kept = sums_taken c.self.inside.cards card items places amounts c.self.invariant
    (room_for c.self.inside.cards c.args.self.now (ap (λ v. v.cards) c.self.view_is) c.requires) in
    let lent : settled c.as_mut_slice-2.result.now c.as_slice.result.now c.as_mut_slice-3.result.now ≡ settled items places (map (taking_card card) amounts)
    = (λ i. settled (c.as_mut_slice-2.ensures.value i) (c.as_slice.ensures.value i) ((c.as_mut_slice-3.ensures.value ∙ taken) i)) in
    let shown = settled items places (map (taking_card card) amounts) in
    let added = refilled_whole items c.settle.new.totals shown (c.settle.ensures.totals ∙ lent)
    (length-settled items places (map (taking_card card) amounts)) in
    subst (All (IsKept most_cards)) (sym (c.as_slice-2.ensures.value ∙ added))
    (all_wider (c.self.inside.cards + 1) most_cards shown kept.few kept.kept)

pub invariant_of-self-2 : goal.invariant_of-self-2
invariant_of-self-2 c =
    let items = c.self.inside.totals.items in
    let places = c.self.inside.places.items in
    let amounts = c.self.inside.amounts.items in
    let card = c.args.card.now in
    let taken = refilled (taking_card card) amounts c.as_mut_slice.result.now c.take_card.new.amounts c.as_mut_slice.ensures.value
    c.take_card.ensures in
    let kept = sums_taken c.self.inside.cards card items places amounts c.self.invariant
    (room_for c.self.inside.cards c.args.self.now (ap (λ v. v.cards) c.self.view_is) c.requires) in
    let lent : settled c.as_mut_slice-2.result.now c.as_slice.result.now c.as_mut_slice-3.result.now ≡ settled items places (map (taking_card card) amounts)
    = (λ i. settled (c.as_mut_slice-2.ensures.value i) (c.as_slice.ensures.value i) ((c.as_mut_slice-3.ensures.value ∙ taken) i)) in
    let shown = settled items places (map (taking_card card) amounts) in
    let added = refilled_whole items c.settle.new.totals shown (c.settle.ensures.totals ∙ lent)
    (length-settled items places (map (taking_card card) amounts)) in
    let ended = c.ended_after-ended.result in
    let closed = refilled (closed_to ended) (refill (length items) items c.settle.new.totals) c.as_mut_slice-4.result.now
    c.end_groups.new.totals c.as_mut_slice-4.ensures.value c.end_groups.ensures
    ∙ ap (map (closed_to ended)) added in
    let cleared = refilled emptied (refill (length amounts) amounts c.take_card.new.amounts) c.as_mut_slice-3.result.now
    c.settle.new.amounts c.as_mut_slice-3.ensures.value c.settle.ensures.amounts
    ∙ ap (map emptied) taken in
    let once = refill (length amounts) amounts c.take_card.new.amounts in
    subst (λ some. AreKeptSums some places (refill (length once) once c.settle.new.amounts) (c.self.inside.cards + 1)) (sym closed)
    (subst (λ some. AreKeptSums (map (closed_to ended) shown) places some (c.self.inside.cards + 1)) (sym cleared)
    (sums_closed (c.self.inside.cards + 1) ended items places (map (taking_card card) amounts) kept))

pub returns-clause-told : goal.returns-clause-told
returns-clause-told c = λ so_far are.
    let items = c.self.inside.totals.items in
    let places = c.self.inside.places.items in
    let amounts = c.self.inside.amounts.items in
    let card = c.args.card.now in
    let taken = refilled (taking_card card) amounts c.as_mut_slice.result.now c.take_card.new.amounts c.as_mut_slice.ensures.value
    c.take_card.ensures in
    let lent : settled c.as_mut_slice-2.result.now c.as_slice.result.now c.as_mut_slice-3.result.now ≡ settled items places (map (taking_card card) amounts)
    = (λ i. settled (c.as_mut_slice-2.ensures.value i) (c.as_slice.ensures.value i) ((c.as_mut_slice-3.ensures.value ∙ taken) i)) in
    let shown = settled items places (map (taking_card card) amounts) in
    let added = refilled_whole items c.settle.new.totals shown (c.settle.ensures.totals ∙ lent)
    (length-settled items places (map (taking_card card) amounts)) in
    told_after c.args.chart.now.lines so_far card c.args.self.now (settled items places amounts) c.as_slice-2.result.now
    (c.self.inside.cards + 1) (c.args.self.now.cards + 1) c.ended_after-ended.result _ _
    are
    (ap (λ v. v.totals) c.self.view_is)
    (c.as_slice-2.ensures.value ∙ added ∙ settled-taken card items places amounts c.self.invariant.numbered)
    (ap (λ v. v.cards + 1) c.self.view_is)
    c.ended_after-ended.ensures.value
    c.first_misfit_to-misfit.ensures

pub returns-clause-goes_on : goal.returns-clause-goes_on
returns-clause-goes_on c = λ so_far are.
    let items = c.self.inside.totals.items in
    let places = c.self.inside.places.items in
    let amounts = c.self.inside.amounts.items in
    let card = c.args.card.now in
    let taken = refilled (taking_card card) amounts c.as_mut_slice.result.now c.take_card.new.amounts c.as_mut_slice.ensures.value
    c.take_card.ensures in
    let lent : settled c.as_mut_slice-2.result.now c.as_slice.result.now c.as_mut_slice-3.result.now ≡ settled items places (map (taking_card card) amounts)
    = (λ i. settled (c.as_mut_slice-2.ensures.value i) (c.as_slice.ensures.value i) ((c.as_mut_slice-3.ensures.value ∙ taken) i)) in
    let shown = settled items places (map (taking_card card) amounts) in
    let added = refilled_whole items c.settle.new.totals shown (c.settle.ensures.totals ∙ lent)
    (length-settled items places (map (taking_card card) amounts)) in
    let ended = c.ended_after-ended.result in
    let closed = refilled (closed_to ended) (refill (length items) items c.settle.new.totals) c.as_mut_slice-4.result.now
    c.end_groups.new.totals c.as_mut_slice-4.ensures.value c.end_groups.ensures
    ∙ ap (map (closed_to ended)) added in
    let cleared = refilled emptied (refill (length amounts) amounts c.take_card.new.amounts) c.as_mut_slice-3.result.now
    c.settle.new.amounts c.as_mut_slice-3.ensures.value c.settle.ensures.amounts
    ∙ ap (map emptied) taken in
    open_after c.args.chart.now.lines so_far card c.args.self.now (settled items places amounts) shown _ ended _
    are
    (ap (λ v. v.totals) c.self.view_is)
    (settled-taken card items places amounts c.self.invariant.numbered)
    c.ended_after-ended.ensures.value
    (ap₂ (λ totals some. settled totals places some) closed cleared
    ∙ settled-none (map (closed_to ended) shown) places (map emptied (map (taking_card card) amounts))
    (none-emptied (map (taking_card card) amounts)))
