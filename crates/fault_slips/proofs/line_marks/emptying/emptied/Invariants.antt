use Rattle.fault_slips.proofs.LineMarks.Copying.{CopiedTo}
use Rattle.fault_slips.proofs.line_marks.emptying.emptied.Given as goal

abbrev pub invariant-loop-byte : goal.invariant-loop-byte
invariant-loop-byte l = CopiedTo l.line l.text l.copy.items l.left l.byte-index
