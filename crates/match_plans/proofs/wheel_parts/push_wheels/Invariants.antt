use Rattle.std.proofs.Common.{◌≡◌, ◌++◌}
use Rattle.std.specs.List.{range_with_len}
use Rattle.match_plans.proofs.wheel_parts.push_wheels.Given as goal

abbrev pub invariant-loop-place : goal.invariant-loop-place
invariant-loop-place l = l.wheels.items ≡ l.initial.wheels.items ++ range_with_len l.wheel l.place
