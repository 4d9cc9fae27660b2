use Rattle.std.proofs.Common.{◌+◌, ◌≤◌, length}
use Rattle.card_code.specs.Lines.{lines_of}
use Rattle.cli_matching.proofs.MatchTexts.Numbering.{GoesOn}
use Rattle.cli_matching.proofs.match_texts.numbers.numbered_lines.Given as goal

abbrev pub invariant-loop-line : goal.invariant-loop-line
invariant-loop-line l = record {
  numbered : GoesOn l.version l.extra l.number (lines_of l.rest) (lines_of l.wiring) l.numbers.items;
  number : l.number + length l.rest ≤ length l.wiring;
}

abbrev pub decreases-loop-line : goal.decreases-loop-line
decreases-loop-line l = length l.rest
