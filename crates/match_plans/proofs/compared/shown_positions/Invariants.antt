use Rattle.std.proofs.Common.{◌≡◌, length}
use Rattle.match_plans.specs.NamingWires.{ShowsPartsOf}
use Rattle.match_plans.proofs.Comparing.{GoOn}
use Rattle.chart_plans.specs.PlansWords.PartNumbers.{AreThere}
use Rattle.chart_plans.specs.PlansWords.Plans.{Lists}
use Rattle.hubs.specs.SetupsWords.Wiring.{Wiring}
use Rattle.match_plans.proofs.compared.shown_positions.Given as goal

abbrev pub invariant-loop-at : goal.invariant-loop-at
invariant-loop-at l =
    AreThere 30 l.positions.items
    × (length l.positions.items ≡ l.at-index)
    × ((other : Wiring) (its : Lists) → ShowsPartsOf l.chart.lines l.setup other its → GoOn l.chart other its l.positions.items)
