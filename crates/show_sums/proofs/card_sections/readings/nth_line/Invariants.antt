use Rattle.std.specs.Prelude.{◌≡◌, ◌≤◌, ◌+◌, length}
use Rattle.card_code.specs.Lines.{lines_of}
use Rattle.show_sums.specs.CardSections.Readings.{nth_line}
use Rattle.show_sums.proofs.card_sections.readings.nth_line.Given as goal

-- the line is among those that are left
abbrev pub invariant-loop-line : goal.invariant-loop-line
invariant-loop-line l = record {
  among : nth_line l.letter l.left l.number (lines_of l.rest) ≡ nth_line l.letter l.nth l.first (lines_of l.trace);
  within : l.number + length l.rest ≤ l.first + length l.trace;
}

abbrev pub decreases-loop-line : goal.decreases-loop-line
decreases-loop-line l = length l.rest
