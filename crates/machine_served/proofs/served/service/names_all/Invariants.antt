use Rattle.std.proofs.Common.{ℕ, ◌≤◌, ◌<◌, Contains}
use Rattle.machine_served.proofs.served.service.names_all.Given as goal

-- the units so far are named
abbrev pub invariant-loop-unit : goal.invariant-loop-unit
invariant-loop-unit l = (unit : ℕ) → 1 ≤ unit → unit < l.unit-counter → Contains l.order unit
