use Rattle.std.proofs.Common.{arith, take, ◌-◌, suc, ◌+◌, subst, ◌≡◌}
use Rattle.card_code.specs.Lines.{lines_of}
use Rattle.card_code.specs.MostCards.{most_cards}
use Rattle.cli_decks.specs.FoldingWords.FoldCalls.LongCards.{long_cards}
use Rattle.cli_decks.proofs.FoldingWords.FoldCalls.LongLines.{LeavesToTell, passed-short, told-at_end, told-long, told-of_most}
use Rattle.cli_decks.proofs.folding.fold_calls.long_cards.write_long_cards.Goals as goal
use Rattle.cli_decks.proofs.folding.fold_calls.long_cards.write_long_cards.Goals.{then-line-gt-CARD_COLUMNS+in_ok-write_line, else-line-gt-CARD_COLUMNS}

pub loop-card-init : goal.loop-card-init
loop-card-init g c = λ end told. told

pub loop-card-preserved : goal.loop-card-preserved
loop-card-preserved g c =
    let old = g.V.Write.contents c.args.out.now in
    let now = g.V.Write.contents c.loop-card.out in
    let whole = long_cards 1 (take most_cards (lines_of c.args.deck.now)) in
    let card = c.loop-card.card in
    let one_more : 1000000 - card ≡ suc (1000000 - (card + 1)) = omega (arith, c.loop-card-test.true) in
    let tells = subst (λ lines. LeavesToTell old now whole card (1000000 - card) lines) c.in-Some.ensures.first c.loop-card.invariant in
    elim c.if-line-gt-CARD_COLUMNS.branch [
      | then-line-gt-CARD_COLUMNS+in_ok-write_line w ↦
          rw w.out-is (told-long old now whole card (1000000 - card) (1000000 - (card + 1)) c.in-Some.line.now
          (lines_of c.in-Some.after.now) one_more tells _ w.if-line-gt-CARD_COLUMNS.true w.in_ok-write_line.ensures)
      | else-line-gt-CARD_COLUMNS w ↦
          rw w.out-is (passed-short old now whole card (1000000 - card) (1000000 - (card + 1)) c.in-Some.line.now
          (lines_of c.in-Some.after.now) one_more tells (omega (arith, w.if-line-gt-CARD_COLUMNS.false)))
    ]

pub returns-after-loop-card : goal.returns-after-loop-card
returns-after-loop-card g c =
    told-of_most _ _ _ c.loop-card.card (1000000 - c.loop-card.card) (lines_of c.loop-card.rest.now)
    (omega (arith, c.loop-card-test.false)) c.loop-card.invariant

pub returns-in_default : goal.returns-in_default
returns-in_default g c =
    told-at_end _ _ _ c.loop-card.card (1000000 - c.loop-card.card)
    (subst (λ lines. LeavesToTell (g.V.Write.contents c.args.out.now) (g.V.Write.contents c.loop-card.out)
    (long_cards 1 (take most_cards (lines_of c.args.deck.now))) c.loop-card.card (1000000 - c.loop-card.card) lines)
    c.in_default.ensures.none c.loop-card.invariant)
