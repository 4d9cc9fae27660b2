use Rattle.std.specs.Prelude.{⊤}
use Rattle.explain_wheels.proofs.explanations.lines.found_line.Given as goal

abbrev pub invariant-loop-cycle : goal.invariant-loop-cycle
invariant-loop-cycle l = ⊤
