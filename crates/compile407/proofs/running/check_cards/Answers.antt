use Rattle.std.proofs.Common.{ℕ, List, refl, subst}
use Rattle.std.proofs.lemmas.List.{take_all}
use Rattle.std.proofs.lemmas.List.Elements.{All-more}
use Rattle.std.specs.List.{All}
use Rattle.chart_rules.specs.ValidCard.{IsValidCard}
use Rattle.compile407.proofs.running.check_cards.Goals as goal

pub loop-place-preserved : goal.loop-place-preserved
loop-place-preserved c =
    let P : List ℕ → Type 0 = IsValidCard c.args.chart.now in
    All-more P c.args.cards.now c.loop-place.place c.index-cards-place.result c.loop-place-test.true
    c.loop-place.invariant
    (subst P c.index-cards-place.is (c.in_default.ensures.valid.0 refl))

pub returns-clause-valid : goal.returns-clause-valid
returns-clause-valid c =
    let P : List (List ℕ) → Type 0 = All (IsValidCard c.args.chart.now) in
    subst P (take_all c.loop-place.place c.args.cards.now c.loop-place-test.false) c.loop-place.invariant
