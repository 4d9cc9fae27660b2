use Rattle.std.proofs.Common.{length}
use Rattle.fault_slips.proofs.LineMarks.FirstLines.{Passed}
use Rattle.fault_wiring_slips.specs.Meetings.{meets}
use Rattle.fault_wiring_slips.proofs.meeting.first_met.Given as goal

abbrev pub invariant-loop-other : goal.invariant-loop-other
invariant-loop-other l = Passed (meets l.meeting l.line) l.passed l.rest l.text

abbrev pub decreases-loop-other : goal.decreases-loop-other
decreases-loop-other l = length l.rest
