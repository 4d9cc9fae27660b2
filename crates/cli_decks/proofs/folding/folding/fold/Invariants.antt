use Rattle.std.proofs.Common.{◌≡◌, ◌++◌, length}
use Rattle.card_code.specs.Lines.{lines_of}
use Rattle.cli_decks.specs.FoldingWords.Folded.{folded_text}
use Rattle.cli_decks.proofs.folding.folding.fold.Given as goal

abbrev pub invariant-loop-line : goal.invariant-loop-line
invariant-loop-line l = l.deck.items ++ folded_text l.fill (lines_of l.rest) ≡ folded_text l.fill (lines_of l.text)

abbrev pub decreases-loop-line : goal.decreases-loop-line
decreases-loop-line l = length l.rest
