use Rattle.std.proofs.Common.{ℕ, ◌+◌, ◌<◌}
use Rattle.match_plans.specs.Shown.{ShowsText}
use Rattle.match_plans.proofs.text_units.unit_showing.Given as goal

abbrev pub invariant-loop-place : goal.invariant-loop-place
invariant-loop-place l = (p : ℕ) → p < l.place → ¬ ShowsText l.setup l.level l.wheel (p + 1)
