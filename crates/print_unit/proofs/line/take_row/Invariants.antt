use Rattle.print_unit.proofs.Sets.{TakesLeft}
use Rattle.print_unit.proofs.line.take_row.Given as goal

-- the wheels that are no longer left have taken the row
abbrev pub invariant-loop-left : goal.invariant-loop-left
invariant-loop-left l = TakesLeft l.word l.left l.place l.fn.sets l.sets

-- each turn leaves fewer
abbrev pub decreases-loop-left : goal.decreases-loop-left
decreases-loop-left l = l.left
