use Rattle.std.proofs.Common.{take, ◌-◌}
use Rattle.card_code.specs.Lines.{lines_of}
use Rattle.card_code.specs.MostCards.{most_cards}
use Rattle.cli_decks.proofs.FoldingWords.FoldCalls.LongLines.{LeavesToTell}
use Rattle.cli_decks.specs.FoldingWords.FoldCalls.LongCards.{long_cards}
use Rattle.cli_decks.proofs.folding.fold_calls.long_cards.write_long_cards.Given as goal

abbrev pub invariant-loop-card : goal.invariant-loop-card
invariant-loop-card g l =
    LeavesToTell (g.V.Write.contents l.fn.out) (g.V.Write.contents l.out) (long_cards 1 (take most_cards (lines_of l.deck))) l.card
    (1000000 - l.card) (lines_of l.rest)
