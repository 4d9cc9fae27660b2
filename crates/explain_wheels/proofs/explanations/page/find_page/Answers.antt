use Rattle.std.proofs.Common.{◌∙◌, sym, ap, subst, refl, ℕ, ◌+◌, List, [], ◌∷◌, ◌++◌, Some, None, length, take}
use Rattle.std.proofs.lemmas.List.{take_more}
use Rattle.std.proofs.lemmas.Option.{slice_get_past, slice_get_read}
use Rattle.explain_wheels.specs.ExplanationsWords.PageFeeds.{GainsFound}
use Rattle.explain_wheels.proofs.ExplanationsWords.PageFeeding.{HasFound, HasFound-all, HasFound-more, HasFound-none}
use Rattle.explain_wheels.proofs.explanations.page.find_page.Goals as goal

pub loop-card-init : goal.loop-card-init
loop-card-init c = record {
  found =
      subst (HasFound c.args.setup.now c.args.cards.now c.args.page 0 c.in_ok-machine.machine) (sym c.new-found.ensures.items)
      (HasFound-none c.args.setup.now c.args.cards.now c.args.page c.in_ok-machine.machine c.in_ok-machine.ensures);
  counted = refl;
}

pub loop-card-preserved : goal.loop-card-preserved
loop-card-preserved c =
    let deck = c.args.cards.now in
    let place = c.loop-card.card-index in
    let card = c.card-item.result in
    let has = c.loop-card.invariant in
    let next = slice_get_read deck (length deck) place card refl c.loop-card-test.true c.card-item.is in
    let gains =
    subst (λ (n : ℕ). GainsFound c.loop-card.machine.net c.loop-card.machine.machine (Some card) c.feed_page.new.machine.machine
    c.args.page n c.loop-card.found.items c.feed_page.new.found.items) has.counted c.in_ok-feed_page.ensures.found in
    record {
      found =
          HasFound-more c.args.setup.now deck c.args.page place card c.loop-card.machine c.feed_page.new.machine
          c.loop-card.found.items c.feed_page.new.found.items c.loop-card.auto.card-index-end next
          (take_more deck place card c.loop-card-test.true
          ∙ ap (λ (x : List ℕ). take place deck ++ x ∷ []) (sym c.card-item.is)) has.found gains c.in_ok-feed_page.ensures.goes_on;
      counted = ap (λ (n : ℕ). n + 1) has.counted;
    }

pub returns : goal.returns
returns c =
    let deck = c.args.cards.now in
    let place = c.loop-card.card-index in
    let has = c.loop-card.invariant in
    let gains =
    subst (λ (n : ℕ). GainsFound c.loop-card.machine.net c.loop-card.machine.machine None c.feed_page-2.new.machine.machine
    c.args.page n c.loop-card.found.items c.feed_page-2.new.found.items) has.counted c.in_ok-feed_page-2.ensures.found in
    HasFound-all c.args.setup.now deck c.args.page place c.loop-card.machine c.feed_page-2.new.machine.machine
    c.loop-card.found.items c.feed_page-2.new.found.items c.loop-card.auto.card-index-end c.loop-card-test.false
    (slice_get_past deck place c.loop-card-test.false) has.found gains
