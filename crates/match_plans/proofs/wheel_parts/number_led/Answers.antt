use Rattle.std.proofs.Common.{ℕ, ◌+◌, arith, sym, true≢false}
use Rattle.hubs.specs.declared.hub.Hub.TheVariants.{W}
use Rattle.match_plans.specs.WheelParts.{exit_of}
use Rattle.match_plans.proofs.Shown.{none-more, none-numbered}
use Rattle.hubs.specs.SetupsWords.Wiring.{HasWire}
use Rattle.match_plans.proofs.wheel_parts.number_led.Goals as goal

pub loop-place-init : goal.loop-place-init
loop-place-init c = λ p less. absurd (omega (arith, less))

pub loop-place-preserved : goal.loop-place-preserved
loop-place-preserved c =
    none-more {P = λ p. ¬ HasWire c.args.setup.now (exit_of c.args.part (p + 1)) (W c.args.wheel)} c.loop-place.invariant
    (λ leads. true≢false (sym (c.if-leads_to.ensures.1 leads)))

pub returns-clause-none : goal.returns-clause-none
returns-clause-none c =
    none-numbered (λ (number : ℕ). HasWire c.args.setup.now (exit_of c.args.part number) (W c.args.wheel)) c.loop-place-test.false
    c.loop-place.invariant
