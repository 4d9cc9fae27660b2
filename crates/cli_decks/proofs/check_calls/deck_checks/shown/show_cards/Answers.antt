use Rattle.std.proofs.Common.{refl, ◌∙◌}
use Rattle.cli_decks.proofs.CheckCalls.DeckChecks.Showing.{shown_more, shown_none}
use Rattle.cli_decks.proofs.check_calls.deck_checks.shown.show_cards.Goals as goal

pub loop-line-init : goal.loop-line-init
loop-line-init c =
    shown_none c.args.chart.now c.args.deck.now c.new-standing.result _ c.new-standing.ensures.begun c.new-standing.ensures.none refl
    c.new.ensures.items

pub loop-line-preserved : goal.loop-line-preserved
loop-line-preserved c =
    shown_more c.args.chart.now c.args.deck.now c.loop-line.rest.now c.in-Some.after.now c.in-Some.line.now c.loop-line.standing
    c.take.new.standing c.loop-line.shown c.take.new.self c.loop-line.invariant c.in-Some.ensures.first
    (λ is. c.if-count.false (c.count.ensures ∙ is)) c.in_ok-take.ensures.takes c.in_ok-take.ensures.counted

pub returns-clause-shown : goal.returns-clause-shown
returns-clause-shown c =
    c.in_ok-end.ensures.shown c.args.deck.now c.loop-line.rest.now c.loop-line.invariant c.in_default.ensures.none
