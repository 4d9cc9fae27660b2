use Rattle.fault_slips.proofs.LineMarks.Steps.{Passed}
use Rattle.fault_slips.proofs.line_marks.span.token_start.Given as goal

abbrev pub invariant-loop : goal.invariant-loop
invariant-loop l = Passed l.index l.counter l.passed l.line
