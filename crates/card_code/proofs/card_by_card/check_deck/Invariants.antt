use Rattle.std.proofs.Common.{length}
use Rattle.card_code.proofs.Decks.{CanBeReadUpTo}
use Rattle.card_code.proofs.card_by_card.check_deck.Given as goal

abbrev pub invariant-loop-line : goal.invariant-loop-line
invariant-loop-line l = CanBeReadUpTo l.bytes l.text l.count

abbrev pub decreases-loop-line : goal.decreases-loop-line
decreases-loop-line l = length l.text
