use Rattle.std.proofs.Common.{List, ◌∷◌, ℕ, ◌+◌, drop, subst, sym, ap, ◌∙◌, arith}
use Rattle.std.proofs.lemmas.List.{drop_more, drop_all}
use Rattle.machine.proofs.Decks.{Ran, Ran-none, Ran-more, Ran-all}
use Rattle.machine.proofs.Order.{MachineLines-in_order}
use Rattle.machine.proofs.run.simulate.Goals as goal

pub loop-card-init : goal.loop-card-init
loop-card-init c = rw (c.new-units.ensures, c.new-lines.ensures.items) (Ran-none c.args.setup.now c.args.cards.now)

pub loop-card-preserved : goal.loop-card-preserved
loop-card-preserved c =
    let setup = c.args.setup.now in
    let cards = c.args.cards.now in
    let card = c.card-item.result in
    let place = c.loop-card.card-index in
    Ran-more setup c.in_ok-net.net cards card (drop (place + 1) cards) c.loop-card.units c.feed.new.self
    c.loop-card.lines.items c.feed.new.out.items c.in_ok-net.ensures
    (subst (λ (left : List (List ℕ)). Ran setup cards left c.loop-card.units c.loop-card.lines.items)
    (drop_more cards place card c.loop-card-test.true ∙ ap (λ (k : List ℕ). k ∷ drop (place + 1) cards) (sym c.card-item.is))
    c.loop-card.invariant) c.in_ok-feed.ensures.fed

pub returns : goal.returns
returns c =
    let setup = c.args.setup.now in
    let cards = c.args.cards.now in
    let place = c.loop-card.card-index in
    let lines =
    Ran-all setup c.in_ok-net.net cards c.loop-card.units c.feed-2.new.self c.loop-card.lines.items c.feed-2.new.out.items
    c.in_ok-net.ensures
    (subst (λ (left : List (List ℕ)). Ran setup cards left c.loop-card.units c.loop-card.lines.items)
    (drop_all place cards (omega (arith, c.loop-card-test.false))) c.loop-card.invariant) c.in_ok-feed-2.ensures.fed in
    record {
      lines = lines;
      in_order = MachineLines-in_order setup cards c.feed-2.new.out.items c.known-form.ensures.form c.requires lines;
    }
