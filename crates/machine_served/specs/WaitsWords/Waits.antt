-- Words in which the bits are units: bit v - 1 stands for unit v.
use Rattle.std.specs.Prelude.{◌≡◌, ◌≢◌, ◌↔◌, ℕ, ◌+◌, Bool, true, List, slice_index_or}
use Rattle.hubs.specs.declared.hub.Hub.{Hub}
use Rattle.net.specs.HubSets.{is_bit}
use Rattle.net.specs.Panel.{reader_of}
use Rattle.machine_served.specs.ServedWords.Orders.{unit_count}
use Rattle.machine_served.specs.ServedWords.Units.{IsUnit}
use Rattle.machine_served.specs.ServedWords.Waits.{WaitsFor}
use Rattle.hubs.specs.SetupsWords.Wiring.{Wiring}

-- a unit of the machine, other than one, senses a hub of a set
pub record SensesOther (unit but : ℕ) (set : Hub → Bool) : Type 0 where
  pub is_unit : IsUnit unit_count unit
  pub another : but ≢ unit
  pub entry : Hub
  pub sensed : reader_of entry ≡ unit
  pub in_set : set entry ≡ true

-- the bits of a word are the units that wait for a unit
abbrev pub IsAwaitedBy : Wiring → ℕ → ℕ → Type 0
IsAwaitedBy wiring other word =
    (place : ℕ) → (is_bit word place ≡ true) ↔ (IsUnit unit_count (place + 1) × WaitsFor wiring (place + 1) other)

-- The bits of a word are the units that a unit waits for. No other bit is set.
abbrev pub AwaitsUnits : Wiring → ℕ → ℕ → Type 0
AwaitsUnits wiring unit word =
    (place : ℕ) → (is_bit word place ≡ true) ↔ (IsUnit unit_count (place + 1) × WaitsFor wiring unit (place + 1))

-- so are those of a word for each unit, from unit 1 on
abbrev pub AreWaits : Wiring → List ℕ → Type 0
AreWaits wiring waits = (unit : ℕ) → IsUnit unit_count (unit + 1) → AwaitsUnits wiring (unit + 1) (slice_index_or waits unit 0)
