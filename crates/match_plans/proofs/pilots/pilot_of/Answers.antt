use Rattle.std.proofs.Common.{ℕ, ◌+◌, Some, arith, refl, sym, true≢false, ◌≡◌}
use Rattle.match_plans.specs.PilotWires.{IsTold}
use Rattle.match_plans.specs.NamingWires.{ShowsPartsOf}
use Rattle.match_plans.proofs.Shown.{none-more, none-numbered}
use Rattle.chart_plans.specs.PlansWords.Plans.{Lists}
use Rattle.hubs.specs.SetupsWords.Wiring.{Wiring}
use Rattle.wiring_table.specs.Parts.{pilot_for}
use Rattle.match_plans.proofs.pilots.pilot_of.Goals as goal

pub loop-place-init : goal.loop-place-init
loop-place-init c = λ p less other its shows told served. absurd (omega (arith, less))

pub returns-then-is_pilot-clause-shown : goal.returns-then-is_pilot-clause-shown
returns-then-is_pilot-clause-shown c = λ other its shows. c.if-is_pilot.ensures.yes other its shows refl

pub loop-place-preserved : goal.loop-place-preserved
loop-place-preserved c =
    none-more
    {P = λ p. (other : Wiring) (its : Lists) → ShowsPartsOf c.args.chart.now.lines c.args.setup.now other its → IsTold c.args.chart.now.lines c.args.amount.now.field.name
    → ¬ (pilot_for its c.args.amount.now.field.name ≡ Some (p + 1))}
    c.loop-place.invariant (λ other its shows told served. true≢false (sym (c.if-is_pilot.ensures.no other its shows served told)))

pub returns-clause-none : goal.returns-clause-none
returns-clause-none c = λ other its pilot shows from to told.
    none-numbered (λ (n : ℕ). pilot_for its c.args.amount.now.field.name ≡ Some n) c.loop-place-test.false
    (λ p less. c.loop-place.invariant p less other its shows told) pilot from to
