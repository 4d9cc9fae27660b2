use Rattle.std.proofs.Common.{◌≡◌, ◌-◌, ◌≤◌, ◌++◌, drop, length}
use Rattle.cli_decks.specs.FoldingWords.Folded.{folded_from, folded_line}
use Rattle.cli_decks.proofs.folding.folding.add_line.Given as goal

abbrev pub invariant-loop-byte : goal.invariant-loop-byte
invariant-loop-byte l = record {
  folded : l.deck.items ++ folded_from l.fill (length l.deck.items - l.start) (drop l.byte-index l.line)
      ≡ l.initial.deck.items ++ folded_line l.fill l.line;
  start : l.start ≡ length l.initial.deck.items;
  grown : l.start ≤ length l.deck.items;
}
