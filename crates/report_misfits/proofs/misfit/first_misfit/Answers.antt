use Rattle.std.proofs.Common.{◌∙◌, sym, ap, option_map}
use Rattle.report_misfits.specs.ToldMisfits.{told}
use Rattle.report_misfits.proofs.Deck.{kept_first, kept_more, told_first_of_deck}
use Rattle.report_misfits.proofs.misfit.first_misfit.Goals as goal

pub loop-place-init : goal.loop-place-init
loop-place-init c = kept_first c.args.chart.now.lines c.args.cards.now c.new-sums.result c.new-sums.ensures.begun c.new-sums.ensures.no_cards

pub loop-place-preserved : goal.loop-place-preserved
loop-place-preserved c =
    let so_far = c.loop-place.invariant.so_far in
    let are = c.loop-place.invariant.are in
    kept_more c.args.chart.now.lines c.args.cards.now c.loop-place.place c.index-cards-place.result c.card_at.result c.loop-place.sums
    c.loop-place.invariant
    c.loop-place-test.true
    c.index-cards-place.is
    c.card_at.ensures
    c.take.new.self
    (sym (ap (option_map told) c.in_default.is) ∙ c.take.ensures.told so_far are)
    (c.take.ensures.goes_on so_far are)
    c.take.ensures.counted

pub returns-in-Some : goal.returns-in-Some
returns-in-Some c =
    told_first_of_deck c.args.chart.now.lines c.args.cards.now c.loop-place.place c.index-cards-place.result c.card_at.result c.loop-place.sums
    c.loop-place.invariant
    c.loop-place-test.true
    c.index-cards-place.is
    c.card_at.ensures
    (told c.in-Some.misfit)
    (sym (ap (option_map told) c.in-Some.is) ∙ c.take.ensures.told c.loop-place.invariant.so_far c.loop-place.invariant.are)
