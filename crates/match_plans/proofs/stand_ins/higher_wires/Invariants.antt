use Rattle.std.specs.Prelude.{◌≤◌, ◌+◌}
use Rattle.match_plans.proofs.stand_ins.higher_wires.Given as goal

abbrev pub invariant-loop-place : goal.invariant-loop-place
invariant-loop-place l = l.count + 1 ≤ l.place
