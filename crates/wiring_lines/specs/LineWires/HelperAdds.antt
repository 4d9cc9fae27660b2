-- A helper of the code: wiring a setup step by step, and which wires a step adds.
use Rattle.std.specs.Prelude.{◌≡◌, ◌↔◌, ◌⊎◌, ℕ, ◌<◌, Option, Some}
use Rattle.hubs.specs.declared.hub.Hub.{Hub}
use Rattle.hubs.specs.SetupsWords.Wiring.{Wiring, HasWire, SameJacks}
use Rattle.wiring_table.specs.Figures.{HasPunch}

-- the new setup has the old one's wires and those of a relation, and the old one's jacks and tape
pub record Adds (wires_of : Hub → Hub → Type 0) (old new : Wiring) : Type 0 where
  pub wires : (exit entry : Hub) → HasWire new exit entry ↔ (HasWire old exit entry ⊎ wires_of exit entry)
  pub jacks : SameJacks old new
  pub tape : new.tape ≡ old.tape

-- one wire
pub data One (from to : Hub) : Hub → Hub → Type 0 where
  one : One from to from to

-- the wires of one relation and those of another
pub data Both (former latter : Hub → Hub → Type 0) (exit entry : Hub) : Type 0 where
  first : former exit entry → Both former latter exit entry
  second : latter exit entry → Both former latter exit entry

-- the wires of each place below a bound
pub data Upto (bound : ℕ) (at : ℕ → Hub → Hub → Type 0) (exit entry : Hub) : Type 0 where
  below : (place : ℕ) → place < bound → at place exit entry → Upto bound at exit entry

-- the wires of the value of an option; none where it has none
pub data OfSome {X : Type 0} (option : Option X) (of : X → Hub → Hub → Type 0) (exit entry : Hub) : Type 0 where
  some : (value : X) → option ≡ Some value → of value exit entry → OfSome option of exit entry

-- some wires, where something holds
pub data Where (holds : Type 0) (wires : Hub → Hub → Type 0) (exit entry : Hub) : Type 0 where
  given : holds → wires exit entry → Where holds wires exit entry

-- the wires of each row that is punched for a character
pub data Punched (character : ℕ) (at : ℕ → Hub → Hub → Type 0) (exit entry : Hub) : Type 0 where
  punched : (row : ℕ) → HasPunch character row → at row exit entry → Punched character at exit entry
