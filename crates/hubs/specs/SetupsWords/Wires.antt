-- The wires of a setup in their order: by the number of the exit, then by that of the entry.
use Rattle.std.specs.Prelude.{◌≡◌, ◌↔◌, ◌⊎◌, ℕ, ◌<◌, List, ◌++◌, AllPairs, Contains, Some}
use Rattle.hubs.specs.Hubs.{number_of}
use Rattle.hubs.specs.declared.hub.Hub.{Hub}
use Rattle.hubs.specs.SetupsWords.Wiring.{Wiring, HasWire, IsWireOf}

-- one hub stands before another in the hub table
pub record IsHubBefore (one other : Hub) : Type 0 where
  pub number : ℕ
  pub other_number : ℕ
  pub numbered : number_of one ≡ Some number
  pub other_numbered : number_of other ≡ Some other_number
  pub before : number < other_number

-- one wire stands before another: by its exit, then by its entry
abbrev pub IsWireBefore : Hub × Hub → Hub × Hub → Type 0
IsWireBefore one other = IsHubBefore one.0 other.0 ⊎ ((one.0 ≡ other.0) × IsHubBefore one.1 other.1)

-- these are the wires of a setup, each once: by the number of the exit, then by that of the entry
pub record AreWiresOf (wiring : Wiring) (wires : List (Hub × Hub)) : Type 0 where
  pub all : (exit entry : Hub) → HasWire wiring exit entry ↔ Contains wires (exit, entry)
  pub in_order : AllPairs IsWireBefore wires

-- Helper words of the code: a list gains the wires that are so, in their order.
pub record GainsWires (Is : Hub × Hub → Type 0) (old new : List (Hub × Hub)) : Type 0 where
  pub wires : List (Hub × Hub)
  pub all : (wire : Hub × Hub) → Is wire ↔ Contains wires wire
  pub in_order : AllPairs IsWireBefore wires
  pub gained : new ≡ old ++ wires

-- the hub's number is this one, and among the numbers
pub record IsListedAt (numbers : List ℕ) (number : ℕ) (hub : Hub) : Type 0 where
  pub numbered : number_of hub ≡ Some number
  pub listed : Contains numbers number

-- a wire from this exit to the entry of this number, if it is among the entries
pub record IsWireTo (exit : Hub) (entries : List ℕ) (number : ℕ) (wire : Hub × Hub) : Type 0 where
  pub exit_is : wire.0 ≡ exit
  pub entry : IsListedAt entries number wire.1

-- a wire from this exit to one of the entries, of a lower number than this one
pub record IsWireToBelow (exit : Hub) (entries : List ℕ) (number : ℕ) (wire : Hub × Hub) : Type 0 where
  pub exit_is : wire.0 ≡ exit
  pub to : ℕ
  pub entry : IsListedAt entries to wire.1
  pub below : to < number

-- a wire from this exit to one of the entries
pub record IsWireToAny (exit : Hub) (entries : List ℕ) (wire : Hub × Hub) : Type 0 where
  pub exit_is : wire.0 ≡ exit
  pub to : ℕ
  pub entry : IsListedAt entries to wire.1

-- a wire of the setup from the exit of this number
pub record IsWireFrom (wiring : Wiring) (number : ℕ) (wire : Hub × Hub) : Type 0 where
  pub there : IsWireOf wiring wire
  pub numbered : number_of wire.0 ≡ Some number

-- a wire of the setup from an exit of a lower number
pub record IsWireFromBelow (wiring : Wiring) (number : ℕ) (wire : Hub × Hub) : Type 0 where
  pub there : IsWireOf wiring wire
  pub below : there.number < number
