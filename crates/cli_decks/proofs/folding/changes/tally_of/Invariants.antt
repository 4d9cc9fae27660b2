use Rattle.std.proofs.Common.{◌≡◌, ◌+◌, ◌≤◌, length}
use Rattle.card_code.specs.Lines.{lines_of}
use Rattle.cli_decks.specs.FoldingWords.Changes.{count_of, first_of, or_else}
use Rattle.cli_decks.proofs.folding.changes.tally_of.Given as goal

abbrev pub invariant-loop-line : goal.invariant-loop-line
invariant-loop-line l = record {
  counted : l.tally.count + count_of l.kind (lines_of l.rest) ≡ count_of l.kind (lines_of l.text);
  first : or_else l.tally.first (first_of l.kind (l.number + 1) (lines_of l.rest)) ≡ first_of l.kind 1 (lines_of l.text);
  number : l.number + length l.rest ≤ length l.text;
}

abbrev pub decreases-loop-line : goal.decreases-loop-line
decreases-loop-line l = length l.rest
