use Rattle.std.proofs.Common.{◌≡◌}
use Rattle.machine.specs.Marked.{marked_changed}
use Rattle.machine.proofs.marked.end_marked.Given as goal

-- with the marks left all is done
abbrev pub invariant-loop-place : goal.invariant-loop-place
invariant-loop-place g l =
    marked_changed l.left 0 (λ unit. g.U.Unit.ended unit l.cycle) l.units
    ≡ marked_changed l.marks 0 (λ unit. g.U.Unit.ended unit l.cycle) l.fn.units

abbrev pub decreases-loop-place : goal.decreases-loop-place
decreases-loop-place g l = l.left
