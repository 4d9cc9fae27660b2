use Rattle.std.proofs.Common.{◌≡◌, ◌+◌, drop}
use Rattle.cli_decks.specs.FoldingWords.Changes.{first_in}
use Rattle.cli_decks.proofs.folding.changes.first_in.Given as goal

abbrev pub invariant-loop-byte : goal.invariant-loop-byte
invariant-loop-byte l = record {
  first : first_in l.kind l.column (drop l.byte-index l.line) ≡ first_in l.kind 1 l.line;
  column : l.column ≡ l.byte-index + 1;
}
