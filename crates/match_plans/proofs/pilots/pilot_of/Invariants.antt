use Rattle.std.proofs.Common.{ℕ, ◌≡◌, ◌+◌, ◌<◌, Some}
use Rattle.match_plans.specs.PilotWires.{IsTold}
use Rattle.match_plans.specs.NamingWires.{ShowsPartsOf}
use Rattle.chart_plans.specs.PlansWords.Plans.{Lists}
use Rattle.hubs.specs.SetupsWords.Wiring.{Wiring}
use Rattle.wiring_table.specs.Parts.{pilot_for}
use Rattle.match_plans.proofs.pilots.pilot_of.Given as goal

abbrev pub invariant-loop-place : goal.invariant-loop-place
invariant-loop-place l =
    (p : ℕ) → p < l.place → (other : Wiring) (its : Lists) → ShowsPartsOf l.chart.lines l.setup other its → IsTold l.chart.lines l.amount.field.name
    → ¬ (pilot_for its l.amount.field.name ≡ Some (p + 1))
