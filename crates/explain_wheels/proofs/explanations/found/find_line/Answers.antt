use Rattle.std.proofs.Common.{◌∙◌, sym, ap, subst, refl, ℕ, ◌+◌, List, [], ◌∷◌, ◌++◌, Option, length, take}
use Rattle.std.proofs.lemmas.List.{take_more}
use Rattle.std.proofs.lemmas.Option.{slice_get_past, slice_get_read}
use Rattle.machine.specs.Kept.{PlacedInFeed}
use Rattle.explain_wheels.specs.ExplanationsWords.PlacedInRun.{IsFound}
use Rattle.explain_wheels.proofs.ExplanationsWords.Feeding.{HasFed-all, HasFed-more, HasFed-none, IsFound-next}
use Rattle.explain_wheels.proofs.explanations.found.find_line.Goals as goal

pub loop-card-init : goal.loop-card-init
loop-card-init c = record {
  fed = HasFed-none c.args.setup.now c.args.cards.now c.args.page c.args.line c.in_ok-machine.machine c.in_ok-machine.ensures;
  counted = refl;
}

pub returns-in-Some-clause-found : goal.returns-in-Some-clause-found
returns-in-Some-clause-found c =
    let deck = c.args.cards.now in
    let place = c.loop-card.card-index in
    let has = c.loop-card.invariant.fed in
    let next = slice_get_read deck (length deck) place c.card-item.result refl c.loop-card-test.true c.card-item.is in
    let placed = subst (λ (n : Option (List ℕ)). PlacedInFeed c.args.setup.now c.loop-card.machine.machine n c.in-Some.kept) (sym next)
    (c.in-Some.ensures.found c.args.setup.now has.net) in
    subst (λ (n : ℕ). IsFound c.args.setup.now deck (record { cards = n; kept = c.in-Some.kept })) (sym c.loop-card.invariant.counted)
    (IsFound-next c.args.setup.now deck c.args.page c.args.line place c.loop-card.machine c.in-Some.kept
    c.loop-card.auto.card-index-end has placed)

pub loop-card-preserved : goal.loop-card-preserved
loop-card-preserved c =
    let deck = c.args.cards.now in
    let place = c.loop-card.card-index in
    let card = c.card-item.result in
    let has = c.loop-card.invariant.fed in
    record {
      fed =
          HasFed-more c.args.setup.now deck c.args.page c.args.line place card c.loop-card.machine c.feed_to.new.machine
          (take_more deck place card c.loop-card-test.true
          ∙ ap (λ (x : List ℕ). take place deck ++ x ∷ []) (sym c.card-item.is)) has
          (c.feed_to.ensures.past c.args.setup.now has.net c.in_default.is) (c.feed_to.ensures.goes_on c.in_default.is);
      counted = ap (λ (n : ℕ). n + 1) c.loop-card.invariant.counted;
    }

pub returns-in-Some-feed_to-clause-found : goal.returns-in-Some-feed_to-clause-found
returns-in-Some-feed_to-clause-found c =
    let deck = c.args.cards.now in
    let place = c.loop-card.card-index in
    let has = c.loop-card.invariant.fed in
    let next = slice_get_past deck place c.loop-card-test.false in
    let placed = subst (λ (n : Option (List ℕ)). PlacedInFeed c.args.setup.now c.loop-card.machine.machine n c.in-Some-feed_to.kept) (sym next)
    (c.in-Some-feed_to.ensures.found c.args.setup.now has.net) in
    subst (λ (n : ℕ). IsFound c.args.setup.now deck (record { cards = n; kept = c.in-Some-feed_to.kept })) (sym c.loop-card.invariant.counted)
    (IsFound-next c.args.setup.now deck c.args.page c.args.line place c.loop-card.machine c.in-Some-feed_to.kept
    c.loop-card.auto.card-index-end has placed)

pub returns-clause-none : goal.returns-clause-none
returns-clause-none c none =
    let has = c.loop-card.invariant.fed in
    HasFed-all c.args.setup.now c.args.cards.now c.args.page c.args.line c.loop-card.card-index c.loop-card.machine
    c.feed_to-2.new.machine.machine c.loop-card-test.false has (c.feed_to-2.ensures.past c.args.setup.now has.net c.in-None.is)
