use Rattle.std.proofs.Common.{ap, subst, sym, ◌++◌}
use Rattle.match_plans.proofs.WheelParts.{led-all, led-more, led-none}
use Rattle.match_plans.proofs.Steps.{there-more, there-none}
use Rattle.chart_plans.specs.PlansWords.PartNumbers.{AreThere}
use Rattle.match_plans.proofs.wheel_parts.led_numbers.Goals as goal

pub loop-wheel-init : goal.loop-wheel-init
loop-wheel-init c = (
  subst (AreThere c.args.last) (sym c.new-numbers.ensures.items) (there-none c.args.last),
  λ its led. ap (λ items. items ++ its) c.new-numbers.ensures.items,
)

pub returns-in-None-clause-found : goal.returns-in-None-clause-found
returns-in-None-clause-found c = λ its led. led-none led c.loop-wheel.wheel-index c.loop-wheel-test.true c.in-None.ensures.none

pub loop-wheel-preserved : goal.loop-wheel-preserved
loop-wheel-preserved c =
    rw c.in_ok-push-in-Some.ensures.items (
      there-more c.args.last c.in-Some.number c.loop-wheel.numbers.items c.loop-wheel.invariant.0 c.in-Some.ensures.there.0
          c.in-Some.ensures.there.1,
      λ its led.
          led-more led c.loop-wheel.numbers.items c.loop-wheel.wheel-index c.in-Some.number c.loop-wheel-test.true
          c.in-Some.ensures.there.0 c.in-Some.ensures.there.1 c.in-Some.ensures.shown (c.loop-wheel.invariant.1 its led),
    )

pub returns-clause-found : goal.returns-clause-found
returns-clause-found c = λ its led.
    led-all led c.loop-wheel.numbers.items c.loop-wheel.wheel-index c.loop-wheel-test.false (c.loop-wheel.invariant.1 its led)
