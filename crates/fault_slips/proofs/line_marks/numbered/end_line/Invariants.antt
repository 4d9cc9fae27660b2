use Rattle.std.proofs.Common.{length}
use Rattle.fault_slips.specs.LineMarks.FirstLines.{is_end}
use Rattle.fault_slips.proofs.LineMarks.FirstLines.{Passed}
use Rattle.fault_slips.proofs.line_marks.numbered.end_line.Given as goal

abbrev pub invariant-loop-line : goal.invariant-loop-line
invariant-loop-line l = Passed is_end l.passed l.rest l.text

abbrev pub decreases-loop-line : goal.decreases-loop-line
decreases-loop-line l = length l.rest
