use Rattle.std.proofs.Common.{◌≡◌, ◌++◌, ℕ, List, drop}
use Rattle.match_plans.specs.WheelParts.{AreLed}
use Rattle.chart_plans.specs.PlansWords.PartNumbers.{AreThere}
use Rattle.match_plans.proofs.wheel_parts.led_numbers.Given as goal

abbrev pub invariant-loop-wheel : goal.invariant-loop-wheel
invariant-loop-wheel l =
    AreThere l.last l.numbers.items
    × ((its : List ℕ) → AreLed l.setup l.part l.last l.wheels its → l.numbers.items ++ drop l.wheel-index its ≡ its)
