-- What a unit doesn't do, whatever its state: each of these stands for a part that it has no share in.
use Rattle.std.specs.Prelude.{Bool, false}
use Rattle.hubs.specs.declared.hub.Hub.{Hub}
use Rattle.net.specs.declared.cycle.Cycle.{Cycle}
use Rattle.net.specs.declared.cycle.Point.{Point}

-- it emits nothing
abbrev pub emits_nothing : {State : Type 0} → State → Cycle → Point → Hub → Bool
emits_nothing state cycle point exit = false

-- it closes no contact
abbrev pub closes_nothing : {State : Type 0} → State → Cycle → Point → Hub → Bool
closes_nothing state cycle point exit = false

-- it senses nothing
abbrev pub senses_nothing : {State : Type 0} → State → Cycle → Point → (Hub → Bool) → State
senses_nothing state cycle point picture = state

-- the end of a cycle changes nothing of it
abbrev pub ends_unchanged : {State : Type 0} → State → Cycle → State
ends_unchanged state cycle = state
