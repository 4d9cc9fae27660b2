use Rattle.std.proofs.Common.{◌≡◌, ◌+◌, ◌≤◌, drop}
use Rattle.cli_decks.specs.FoldingWords.Changes.{count_in}
use Rattle.cli_decks.proofs.folding.changes.count_in.Given as goal

abbrev pub invariant-loop-byte : goal.invariant-loop-byte
invariant-loop-byte l = record {
  counted : l.count + count_in l.kind (drop l.byte-index l.line) ≡ count_in l.kind l.line;
  within : l.count ≤ l.byte-index;
}
