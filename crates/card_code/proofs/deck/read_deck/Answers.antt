use Rattle.std.proofs.Common.{arith, inl}
use Rattle.std.proofs.lemmas.Result.{err_from_is_err_and}
use Rattle.card_code.specs.Deck.{Deck, HasDeckFault}
use Rattle.card_code.specs.declared.deck.DeckFault.TheVariants.{TooManyCards}
use Rattle.card_code.proofs.Decks.{Deck-at_end, HasDeckFault-next, HasDeckFault-many, IsReadUpTo-push}
use Rattle.card_code.proofs.Faults.{Deck-no_fault, Deck-same, told_at_fault}
use Rattle.card_code.proofs.deck.read_deck.Goals as goal

-- line 1,000,000 is there
too_many : (c : goal.After-drop-cards) → HasDeckFault c.args.bytes.now TooManyCards
too_many c = HasDeckFault-many _ _ _ _ _ c.loop-line.invariant (omega arith) c.in-Some.ensures.first

-- the line read is at fault
at_fault : (c : goal.After-drop-cards-in_err-read_card) → HasDeckFault c.args.bytes.now c.in_err-read_card.field-0.0
at_fault c =
    HasDeckFault-next _ _ _ _ _ c.loop-line.invariant (omega arith) c.in-Some.ensures.first _ (omega arith) _
    c.in_err-read_card.ensures.fault

-- all lines are read
at_end : (c : goal.In_default) → Deck c.args.bytes.now c.loop-line.cards.items
at_end c = Deck-at_end _ _ _ c.loop-line.invariant c.in_default.ensures.none

pub returns-then-len-eq-MOST_CARDS-clause-fault : goal.returns-then-len-eq-MOST_CARDS-clause-fault
returns-then-len-eq-MOST_CARDS-clause-fault c = λ other. too_many c

pub returns-then-len-eq-MOST_CARDS-clause-read : goal.returns-then-len-eq-MOST_CARDS-clause-read
returns-then-len-eq-MOST_CARDS-clause-read c =
    λ cards deck. absurd (Deck-no_fault _ cards TooManyCards deck (too_many c))

pub returns-then-len-eq-MOST_CARDS-clause-told : goal.returns-then-len-eq-MOST_CARDS-clause-told
returns-then-len-eq-MOST_CARDS-clause-told c = λ due h. inl (told_at_fault _ TooManyCards due (too_many c) h)

pub returns-in_err-read_card-clause-fault : goal.returns-in_err-read_card-clause-fault
returns-in_err-read_card-clause-fault c =
    let p = err_from_is_err_and c.from_residual.result c.from_residual.ensures.1 in
    rw (p.1, p.2) (λ other. at_fault c)

pub returns-in_err-read_card-clause-read : goal.returns-in_err-read_card-clause-read
returns-in_err-read_card-clause-read c =
    let p = err_from_is_err_and c.from_residual.result c.from_residual.ensures.1 in
    rw (p.1, p.2) (λ cards deck. absurd (Deck-no_fault _ cards c.in_err-read_card.field-0.0 deck (at_fault c)))

pub returns-in_err-read_card-clause-told : goal.returns-in_err-read_card-clause-told
returns-in_err-read_card-clause-told c =
    let p = err_from_is_err_and c.from_residual.result c.from_residual.ensures.1 in
    rw (p.1, p.2) (λ due h. inl (told_at_fault _ c.in_err-read_card.field-0.0 due (at_fault c) h))

pub returns-clause-read : goal.returns-clause-read
returns-clause-read c = λ cards deck. inl (Deck-same _ _ cards (at_end c) deck)

pub returns-clause-told : goal.returns-clause-told
returns-clause-told c = λ due h. absurd (Deck-no_fault _ _ due (at_end c) h)

pub loop-line-preserved : goal.loop-line-preserved
loop-line-preserved c =
    rw c.in_ok-push.ensures.items
    (IsReadUpTo-push _ _ _ _ _ _ c.loop-line.invariant (omega arith) c.in-Some.ensures.first
    c.in_ok-read_card.ensures.card)
