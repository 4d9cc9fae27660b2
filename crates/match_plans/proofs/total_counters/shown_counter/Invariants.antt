use Rattle.std.proofs.Common.{ℕ, ◌<◌, ◌≡◌}
use Rattle.match_plans.specs.Groups.{group_with}
use Rattle.match_plans.specs.Shown.{IsShown, units_group}
use Rattle.chart_plans.specs.declared.plans.counter.TotalCounter.{TotalCounter}
use Rattle.match_plans.proofs.total_counters.shown_counter.Given as goal

abbrev pub invariant-loop-place : goal.invariant-loop-place
invariant-loop-place l =
    (p : ℕ) → p < l.place → (counter : TotalCounter) → units_group counter ≡ group_with p
    → ¬ IsShown l.setup l.units.level l.units.wheel l.units.need counter
