-- Two setups side by side: what one has and the other has not, and how much a setup has.
use Rattle.std.specs.Prelude.{◌≡◌, ◌≢◌, ◌↔◌, ℕ, ◌+◌, List, AllPairs, Contains, length, true, false}
use Rattle.hubs.specs.SetupsWords.Tapes.{IsStopOf, has_stop}
use Rattle.hubs.specs.SetupsWords.Wiring.{Wiring, HasWire, HasJack, IsWireOf}
use Rattle.hubs.specs.declared.hub.Hub.{Hub}
use Rattle.hubs.specs.declared.jack.Jack.{Jack}

-- a wire that one setup has and the other has not
pub record LacksWire (one other : Wiring) (exit entry : Hub) : Type 0 where
  pub there : HasWire one exit entry
  pub lacking : ¬ HasWire other exit entry

-- a jack that is plugged in one setup and not in the other
pub record LacksJack (one other : Wiring) (jack : Jack) : Type 0 where
  pub there : HasJack one jack
  pub lacking : ¬ HasJack other jack

-- a stop that is punched in the tape of one setup and not in that of the other
pub record LacksStop (one other : Wiring) (channel line : ℕ) : Type 0 where
  pub there : has_stop one.tape channel line ≡ true
  pub lacking : has_stop other.tape channel line ≡ false

-- What one setup has and the other has not, as a setup of just these wires, jacks and stops on the form of the one.
pub record IsDifference (one other left : Wiring) : Type 0 where
  pub wires : (exit entry : Hub) → HasWire left exit entry ↔ LacksWire one other exit entry
  pub jacks : (jack : Jack) → HasJack left jack ↔ LacksJack one other jack
  pub stops : (channel line : ℕ) → (has_stop left.tape channel line ≡ true) ↔ LacksStop one other channel line
  pub lines : left.tape.lines ≡ one.tape.lines
  pub first : left.tape.first ≡ one.tape.first
  pub overflow : left.tape.overflow ≡ one.tape.overflow

-- how many things pass a test of some kind: as many as a list has, with each of them once
pub record AreMany {X : Type 0} (Is : X → Type 0) (many : ℕ) : Type 0 where
  pub things : List X
  pub all : (thing : X) → Is thing ↔ Contains things thing
  pub once : AllPairs (λ one other. one ≢ other) things
  pub counted : many ≡ length things

-- how much a setup has: its wires, its jacks and its stops together
pub record HasSize (wiring : Wiring) (size : ℕ) : Type 0 where
  pub wires : ℕ
  pub jacks : ℕ
  pub stops : ℕ
  pub are_wires : AreMany (IsWireOf wiring) wires
  pub are_jacks : AreMany (HasJack wiring) jacks
  pub are_stops : AreMany (IsStopOf wiring.tape) stops
  pub together : size ≡ wires + jacks + stops
