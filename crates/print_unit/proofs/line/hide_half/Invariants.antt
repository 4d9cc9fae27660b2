use Rattle.print_unit.proofs.Hiding.{HidesLeft}
use Rattle.print_unit.proofs.line.hide_half.Given as goal

-- the wheels that are no longer left are blank
abbrev pub invariant-loop-left : goal.invariant-loop-left
invariant-loop-left l = HidesLeft l.from l.hidden l.left l.fn.line l.line

-- each turn leaves fewer
abbrev pub decreases-loop-left : goal.decreases-loop-left
decreases-loop-left l = l.left
