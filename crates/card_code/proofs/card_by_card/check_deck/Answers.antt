use Rattle.std.proofs.Common.{◌∙◌, ◌∷◌, ◌++◌, [], arith, length-append}
use Rattle.std.proofs.lemmas.Result.{err_from_is_err_and}
use Rattle.card_code.proofs.Decks.{Deck-at_end, HasDeckFault-many, HasDeckFault-next, IsReadUpTo-push}
use Rattle.card_code.proofs.card_by_card.check_deck.Goals as goal

pub returns-then-count-clause-fault : goal.returns-then-count-clause-fault
returns-then-count-clause-fault c =
    let so_far = c.loop-line.invariant in
    HasDeckFault-many _ _ _ _ so_far.cards so_far.read (so_far.counted ∙ (omega (arith, c.if-count.true))) c.in-Some.ensures.first

pub returns-in_err-read_card-clause-fault : goal.returns-in_err-read_card-clause-fault
returns-in_err-read_card-clause-fault c =
    let so_far = c.loop-line.invariant in
    let exit = err_from_is_err_and c.from_residual.result c.from_residual.ensures.1 in
    rw (exit.1, exit.2)
    (HasDeckFault-next _ _ _ _ so_far.cards so_far.read (omega (arith, so_far.counted, c.if-count.false)) c.in-Some.ensures.first _
    (omega (arith, so_far.counted)) _ c.in_err-read_card.ensures.fault)

pub loop-line-preserved : goal.loop-line-preserved
loop-line-preserved c =
    let so_far = c.loop-line.invariant in
    record {
      cards = so_far.cards ++ c.in_ok-read_card.field-0 ∷ [];
      read = IsReadUpTo-push _ _ _ _ _ _ so_far.read (omega (arith, so_far.counted, c.if-count.false)) c.in-Some.ensures.first
          c.in_ok-read_card.ensures.card;
      counted = omega (arith, so_far.counted, length-append so_far.cards (c.in_ok-read_card.field-0 ∷ []));
    }

pub returns-clause-deck : goal.returns-clause-deck
returns-clause-deck c =
    let so_far = c.loop-line.invariant in
    record { cards = so_far.cards; deck = Deck-at_end _ _ so_far.cards so_far.read c.in_default.ensures.none }
