use Rattle.std.proofs.Common.{◌∙◌, sym, ap, refl, ℕ, ◌+◌, List, [], ◌∷◌, ◌++◌, Some, None, length, take, arith}
use Rattle.std.proofs.lemmas.List.{take_more}
use Rattle.std.proofs.lemmas.Option.{slice_get_past, slice_get_read}
use Rattle.explain_wheels.proofs.ExplanationsWords.LineFeeding.{IsCounted-more, IsCounted-none, IsFedTo-more, IsFedTo-none, found-none, kept-found, takes-card}
use Rattle.explain_wheels.proofs.explanations.lines.find_lines.Goals as goal

pub loop-card-init : goal.loop-card-init
loop-card-init c = record {
  ahead = IsCounted-none c.args.setup.now c.in_ok-ahead.ahead c.in_ok-ahead.ensures;
  machine = IsCounted-none c.args.setup.now c.in_ok-machine.machine c.in_ok-machine.ensures;
  run = IsFedTo-none c.args.setup.now c.args.cards.now c.in_ok-machine.machine c.in_ok-machine.ensures;
  counted = refl;
  within = omega arith;
  found = found-none c.args.setup.now c.args.cards.now c.new-found.result.items c.new-found.ensures.items;
}

pub feed_ahead-requires : goal.feed_ahead-requires
feed_ahead-requires c =
    let less = c.loop-card-test.true in
    let few = c.requires.few in
    takes-card c.loop-card.card-index c.card-item.result c.loop-card.ahead c.loop-card.invariant.ahead (omega (arith, less, few))

pub feed_counted-requires : goal.feed_counted-requires
feed_counted-requires c =
    let less = c.loop-card-test.true in
    let few = c.requires.few in
    takes-card c.loop-card.card-index c.card-item.result c.loop-card.machine c.loop-card.invariant.machine (omega (arith, less, few))

pub add_lines-requires-clause-kept : goal.add_lines-requires-clause-kept
add_lines-requires-clause-kept c =
    let deck = c.args.cards.now in
    let place = c.loop-card.card-index in
    let next = slice_get_read deck (length deck) place c.card-item.result refl c.loop-card-test.true c.card-item.is in
    kept-found c.args.setup.now deck place c.loop-card.fed (Some c.card-item.result) c.loop-card.machine c.feed_counted.new.machine.machine
    c.new-kept.result.items c.feed_counted.new.kept.items c.deref.result.now c.loop-card.auto.card-index-end next
    c.loop-card.invariant.counted c.loop-card.invariant.run c.new-kept.ensures.items c.in_ok-feed_counted.ensures.feeds
    c.deref.ensures.value

pub loop-card-preserved : goal.loop-card-preserved
loop-card-preserved c =
    let deck = c.args.cards.now in
    let place = c.loop-card.card-index in
    let card = c.card-item.result in
    let has = c.loop-card.invariant in
    record {
      ahead = IsCounted-more place card c.loop-card.ahead c.feed_ahead.new.ahead c.in_ok-count.ensures has.ahead;
      machine =
          IsCounted-more place card c.loop-card.machine c.feed_counted.new.machine c.in_ok-feed_counted.ensures.goes_on has.machine;
      run =
          IsFedTo-more c.args.setup.now deck place card c.loop-card.machine c.feed_counted.new.machine _ _
          (take_more deck place card c.loop-card-test.true
          ∙ ap (λ (x : List ℕ). take place deck ++ x ∷ []) (sym c.card-item.is)) has.run c.in_ok-feed_counted.ensures.feeds
          c.in_ok-feed_counted.ensures.goes_on;
      counted = ap (λ (n : ℕ). n + 1) has.counted;
      within = c.end_of-to.ensures.1;
      found = c.in_ok-add_lines.ensures;
    }

pub add_lines-requires-2-clause-kept : goal.add_lines-requires-2-clause-kept
add_lines-requires-2-clause-kept c =
    let deck = c.args.cards.now in
    let place = c.loop-card.card-index in
    kept-found c.args.setup.now deck place c.loop-card.fed None c.loop-card.machine c.feed_kept.new.machine.machine
    c.new-kept-2.result.items c.feed_kept.new.kept.items c.deref-2.result.now c.loop-card.auto.card-index-end
    (slice_get_past deck place c.loop-card-test.false) c.loop-card.invariant.counted c.loop-card.invariant.run
    c.new-kept-2.ensures.items c.in_ok-feed_kept.ensures.feeds c.deref-2.ensures.value
