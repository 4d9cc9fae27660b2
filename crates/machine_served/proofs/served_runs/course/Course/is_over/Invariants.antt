use Rattle.std.proofs.Common.{◌≡◌, ◌<◌, ◌≤◌, ℕ}
use Rattle.machine_served.specs.ServedRuns.Course.{served_in}
use Rattle.machine_served.proofs.served_runs.course.Course.is_over.Given as goal

-- it is over for the units so far
abbrev pub invariant-loop-unit : goal.invariant-loop-unit
invariant-loop-unit l = (unit : ℕ) → 1 ≤ unit → unit < l.unit → (served_in l.self).places unit ≡ 14
