use Rattle.fault_lists.proofs.MisreadLines.Steps.{ListsSoFar}
use Rattle.fault_lists.proofs.misread_lines.listing.misread_lines.Given as goal

abbrev pub invariant-loop : goal.invariant-loop
invariant-loop l = ListsSoFar l.text l.rest.items l.lines.items l.counter
