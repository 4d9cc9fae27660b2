use Rattle.card_code.proofs.Faults.{Deck-no_fault, Deck-same, HasDeckFault-same}
use Rattle.card_code.proofs.deck.deck_text_is_unambiguous.Goals as goal

pub returns : goal.returns
returns c = record { deck = Deck-same; fault = HasDeckFault-same; either = Deck-no_fault }
