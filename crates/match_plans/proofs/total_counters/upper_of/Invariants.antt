use Rattle.std.proofs.Common.{ℕ, ◌<◌}
use Rattle.match_plans.specs.Groups.{group_with}
use Rattle.match_plans.specs.Shown.{CarriesTo}
use Rattle.match_plans.proofs.total_counters.upper_of.Given as goal

abbrev pub invariant-loop-place : goal.invariant-loop-place
invariant-loop-place l = (p : ℕ) → p < l.place → ¬ CarriesTo l.setup l.lower (group_with p)
