use Rattle.std.proofs.Common.{ℕ, ◌<◌}
use Rattle.match_plans.specs.Groups.{group_with}
use Rattle.match_plans.specs.Narrow.{IsNarrow}
use Rattle.match_plans.proofs.narrow.narrow_with.Given as goal

abbrev pub invariant-loop-place : goal.invariant-loop-place
invariant-loop-place l = (p : ℕ) → p < l.place → ¬ IsNarrow l.setup l.units.level l.units.wheel l.units.need (group_with p)
