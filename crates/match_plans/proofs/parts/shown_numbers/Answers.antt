use Rattle.match_plans.specs.Renumbered.{TakesShown, with_numbers}
use Rattle.match_plans.specs.NamingWires.{ShowsPartsOf}
use Rattle.match_plans.specs.Wired.{IsWiredBy}
use Rattle.match_plans.proofs.Planned.{all-shown}
use Rattle.match_plans.proofs.Steps.{if-ok}
use Rattle.chart_plans.specs.PlansWords.Plans.{Lists}
use Rattle.hubs.specs.SetupsWords.Wiring.{Wiring}
use Rattle.chart_plans.specs.declared.plans.part_numbers.PartKind.TheVariants as kind
use Rattle.match_plans.proofs.parts.shown_numbers.Goals as goal

pub returns : goal.returns
returns c =
    let lines = c.args.chart.now.lines in
    let setup = c.args.setup.now in
    if-ok c.with_shown-7.result
    (λ told. (other : Wiring) (its : Lists) → ShowsPartsOf lines setup other its → TakesShown lines setup kind.Pilot c.in_ok-positions.positions told)
    (λ numbers. (other : Wiring) (its : Lists) → ShowsPartsOf lines setup other its → IsWiredBy lines other (with_numbers its numbers))
    (λ numbers told.
    all-shown c.in_ok-units.ensures c.in_ok-splits.ensures c.in_ok-minor.ensures c.in_ok-intermediate.ensures
    c.in_ok-major.ensures c.in_ok-positions.ensures told)
    c.with_shown-7.ensures
