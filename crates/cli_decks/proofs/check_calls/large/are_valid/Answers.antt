use Rattle.std.proofs.Common.{rules, ℕ, List, subst, IsOk}
use Rattle.std.proofs.lemmas.List.{take_all}
use Rattle.std.proofs.lemmas.List.Elements.{All-more}
use Rattle.std.specs.Prelude.{All}
use Rattle.chart_rules.specs.ValidCard.{IsValidCard}
use Rattle.cli_decks.proofs.check_calls.large.are_valid.Goals as goal

pub loop-card-preserved : goal.loop-card-preserved
loop-card-preserved c =
    let P : List ℕ → Type 0 = IsValidCard c.args.chart.now in
    let ok : IsOk c.valid_card.result = search (rules, c.if-is_err.ensures.negation) in
    All-more P c.args.cards.now c.loop-card.card-index c.card-item.result c.loop-card-test.true c.loop-card.invariant
    (subst P c.card-item.is (c.valid_card.ensures.valid.0 ok))

pub returns-clause-valid : goal.returns-clause-valid
returns-clause-valid c done =
    let P : List (List ℕ) → Type 0 = All (IsValidCard c.args.chart.now) in
    subst P (take_all c.loop-card.card-index c.args.cards.now c.loop-card-test.false) c.loop-card.invariant
