use Rattle.std.specs.Prelude.{◌≡◌, take}
use Rattle.print_unit.specs.ZeroControl.{count_of}
use Rattle.explain_wheels.proofs.explanations.significance.figure.Given as goal

-- none of the rows so far was received
abbrev pub invariant-loop-place : goal.invariant-loop-place
invariant-loop-place l = count_of (take l.place l.received) ≡ 0
