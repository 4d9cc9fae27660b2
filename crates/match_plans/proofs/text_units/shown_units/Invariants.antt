use Rattle.std.proofs.Common.{◌≡◌, ◌++◌, drop, filter_map}
use Rattle.match_plans.specs.NamingWires.{ShowsPartsOf}
use Rattle.chart_plans.specs.PlansWords.PartNumbers.{AreThere}
use Rattle.chart_plans.specs.PlansWords.Plans.{Lists}
use Rattle.hubs.specs.SetupsWords.Wiring.{Wiring}
use Rattle.match_plans.proofs.Texts.{unit_on}
use Rattle.match_plans.proofs.text_units.shown_units.Given as goal

abbrev pub invariant-loop-line : goal.invariant-loop-line
invariant-loop-line l =
    AreThere 4 l.units.items
    × ((other : Wiring) (its : Lists) → ShowsPartsOf l.chart.lines l.setup other its
    → l.units.items ++ filter_map (unit_on its) (drop l.line-index l.lines) ≡ its.numbers.storage)
