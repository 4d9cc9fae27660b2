use Rattle.std.proofs.Common.{ℕ, ◌+◌, ◌<◌, Contains}
use Rattle.match_plans.specs.ComparedColumns.{IsCompared}
use Rattle.match_plans.proofs.compared.free_position.Given as goal

abbrev pub invariant-loop-place : goal.invariant-loop-place
invariant-loop-place l = (p : ℕ) → p < l.place → IsCompared l.setup l.column l.level (p + 1) → Contains l.taken (p + 1)
