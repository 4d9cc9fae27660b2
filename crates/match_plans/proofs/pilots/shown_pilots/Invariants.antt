use Rattle.std.proofs.Common.{◌≡◌, ◌++◌, drop, filter_map}
use Rattle.match_plans.specs.NamingWires.{ShowsPartsOf}
use Rattle.chart_plans.specs.PlansWords.PartNumbers.{AreThere}
use Rattle.chart_plans.specs.PlansWords.Plans.{Lists}
use Rattle.hubs.specs.SetupsWords.Wiring.{Wiring}
use Rattle.wiring_table.specs.Parts.{pilot_for}
use Rattle.match_plans.proofs.pilots.shown_pilots.Given as goal

abbrev pub invariant-loop-name : goal.invariant-loop-name
invariant-loop-name l =
    AreThere 16 l.pilots.items
    × ((other : Wiring) (its : Lists) → ShowsPartsOf l.chart.lines l.setup other its
    → l.pilots.items ++ filter_map (pilot_for its) (drop l.name-index l.names) ≡ its.numbers.pilots)
