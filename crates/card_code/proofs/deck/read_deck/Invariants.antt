use Rattle.std.proofs.Common.{length}
use Rattle.card_code.proofs.Decks.{IsReadUpTo}
use Rattle.card_code.proofs.deck.read_deck.Given as goal

abbrev pub invariant-loop-line : goal.invariant-loop-line
invariant-loop-line l = IsReadUpTo l.bytes l.text l.cards.items

abbrev pub decreases-loop-line : goal.decreases-loop-line
decreases-loop-line l = length l.text
