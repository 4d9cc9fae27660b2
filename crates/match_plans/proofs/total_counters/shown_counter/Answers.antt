use Rattle.std.proofs.Common.{arith, ◌≡◌}
use Rattle.match_plans.specs.Groups.{group_with}
use Rattle.match_plans.specs.Shown.{IsShown, units_group}
use Rattle.match_plans.proofs.Shown.{none-more, none-shown}
use Rattle.chart_plans.specs.declared.plans.counter.TotalCounter.{TotalCounter}
use Rattle.match_plans.proofs.total_counters.shown_counter.Goals as goal

pub loop-place-init : goal.loop-place-init
loop-place-init c = λ p less. absurd (omega (arith, less))

pub loop-place-preserved : goal.loop-place-preserved
loop-place-preserved c =
    none-more {P = λ p. (counter : TotalCounter) → units_group counter ≡ group_with p
    → ¬ IsShown c.args.setup.now c.args.units.level c.args.units.wheel c.args.units.need counter} c.loop-place.invariant
    c.in_default.ensures.none

pub returns-clause-none : goal.returns-clause-none
returns-clause-none c =
    none-shown c.args.setup.now c.args.units.level c.args.units.wheel c.args.units.need c.loop-place-test.false c.loop-place.invariant
