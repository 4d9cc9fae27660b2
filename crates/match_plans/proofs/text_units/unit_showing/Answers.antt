use Rattle.std.proofs.Common.{◌+◌, arith, sym, true≢false}
use Rattle.match_plans.specs.Shown.{ShowsText}
use Rattle.match_plans.proofs.Shown.{none-more, none-numbered}
use Rattle.match_plans.proofs.text_units.unit_showing.Goals as goal

pub loop-place-init : goal.loop-place-init
loop-place-init c = λ p less. absurd (omega (arith, less))

pub loop-place-preserved : goal.loop-place-preserved
loop-place-preserved c =
    none-more {P = λ p. ¬ ShowsText c.args.setup.now c.args.level c.args.wheel (p + 1)} c.loop-place.invariant
    (λ shows. true≢false (sym (c.if-shows_text.ensures.1 shows)))

pub returns-clause-none : goal.returns-clause-none
returns-clause-none c =
    none-numbered (ShowsText c.args.setup.now c.args.level c.args.wheel) c.loop-place-test.false c.loop-place.invariant
