use Rattle.std.specs.Prelude.{◌≡◌, ◌≤◌, ◌+◌, length}
use Rattle.card_code.specs.Lines.{lines_of}
use Rattle.show_sections.proofs.cycle_sections.sections.count_cycles.Given as goal

-- the cycles that are counted, and the lines that are left
abbrev pub invariant-loop-after : goal.invariant-loop-after
invariant-loop-after l = record {
  counted : l.count + length (lines_of l.rest) ≡ length (lines_of l.trace);
  within : l.count + length l.rest ≤ length l.trace;
}

abbrev pub decreases-loop-after : goal.decreases-loop-after
decreases-loop-after l = length l.rest
