-- Units of any kind, by what each does in its state, and the laws by which each keeps to its own hubs.
use Rattle.std.specs.Prelude.{◌≡◌, ℕ, Bool, true}
use Rattle.hubs.specs.declared.hub.Hub.{Hub}
use Rattle.net.specs.Panel.{owner_of, reader_of}
use Rattle.net.specs.declared.cycle.Cycle.{Cycle}
use Rattle.net.specs.declared.cycle.Point.{Point}

-- A kind of units, by the states of a unit: the exits that it emits at a point of a cycle, its contacts that are closed there by
-- their exits, what it becomes by sensing a picture there, what it becomes at the end of a cycle, and its number.
pub record Kind (State : Type 0) : Type 0 where
  pub emits : State → Cycle → Point → Hub → Bool
  pub closes : State → Cycle → Point → Hub → Bool
  pub sensed : State → Cycle → Point → (Hub → Bool) → State
  pub ended : State → Cycle → State
  pub number : State → ℕ

-- two pictures agree on the entries that a unit senses
abbrev pub AgreeOnEntries : ℕ → (Hub → Bool) → (Hub → Bool) → Type 0
AgreeOnEntries unit one other = (hub : Hub) → reader_of hub ≡ unit → one hub ≡ other hub

-- Each unit of the kind emits at its own exits, closes its own contacts and senses its own entries alone, and keeps its number.
pub record KeepsToItsOwn {State : Type 0} (kind : Kind State) : Type 0 where
  pub emits_own :
      (state : State) (cycle : Cycle) (point : Point) (hub : Hub)
      → kind.emits state cycle point hub ≡ true → owner_of hub ≡ kind.number state
  pub closes_own :
      (state : State) (cycle : Cycle) (point : Point) (hub : Hub)
      → kind.closes state cycle point hub ≡ true → owner_of hub ≡ kind.number state
  pub senses_own :
      (state : State) (cycle : Cycle) (point : Point) (one other : Hub → Bool)
      → AgreeOnEntries (kind.number state) one other
      → kind.sensed state cycle point one ≡ kind.sensed state cycle point other
  pub keeps_number :
      (state : State) (cycle : Cycle) (point : Point) (picture : Hub → Bool)
      → kind.number (kind.sensed state cycle point picture) ≡ kind.number state
  pub ends_with_number :
      (state : State) (cycle : Cycle) → kind.number (kind.ended state cycle) ≡ kind.number state
