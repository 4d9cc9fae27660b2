-- A unit through a cycle: it senses the picture of each point in turn, and then ends the cycle.
use Rattle.std.specs.Prelude.{Bool, List, [], ◌∷◌}
use Rattle.hubs.specs.declared.hub.Hub.{Hub}
use Rattle.net.specs.Cycles.{points}
use Rattle.net.specs.declared.cycle.Cycle.{Cycle}
use Rattle.net.specs.declared.cycle.Point.{Point}

-- what a unit becomes by the pictures of some points, one after another, by what it becomes at each
abbrev pub after_points : {State : Type 0} → (State → Cycle → Point → (Hub → Bool) → State)
    → Cycle → (Point → Hub → Bool) → List Point → State → State
after_points sensed cycle pictures [] state = state
after_points sensed cycle pictures (point ∷ others) state =
    after_points sensed cycle pictures others (sensed state cycle point (pictures point))

-- what it becomes by a whole cycle
abbrev pub after_cycle : {State : Type 0} → (State → Cycle → Point → (Hub → Bool) → State) → (State → Cycle → State)
    → Cycle → (Point → Hub → Bool) → State → State
after_cycle sensed ended cycle pictures state = ended (after_points sensed cycle pictures points state) cycle
