-- Laws of units that run ahead of one another in a cycle, for each kind of units that keep to their own hubs.
use Rattle.std.specs.Prelude.{◌≡◌, ℕ, ◌*◌, ◌≤◌, ◌⊎◌, List, All, length}
use Rattle.hubs.specs.SetupsWords.Wiring.{Wiring}
use Rattle.net.specs.declared.cycle.Cycle.{Cycle}
use Rattle.machine_served.specs.ServedWords.Cycles.{IsAtOnce}
use Rattle.machine_served.specs.ServedWords.Orders.{NamesAll}
use Rattle.machine_served.specs.ServedWords.Rounds.{Rounds}
use Rattle.machine_served.specs.ServedWords.Steps.{AreOver, CanStep, Runs, Served, Starts, Step}
use Rattle.net.specs.Units.{KeepsToItsOwn, Kind}
use Rattle.machine_served.specs.ServedWords.Units.{AreNumbered, IsUnit}

-- Whatever steps are taken until the cycle is over for all, each unit ends as it does where all units act at once.
abbrev pub SchedulesEndAsAtOnce : Type 0 → Type 0
SchedulesEndAsAtOnce State =
    (kind : Kind State) (wiring : Wiring) (cycle : Cycle) (count : ℕ) (states : ℕ → ℕ → State) (steps : List Step)
    (start last : Served State)
    → KeepsToItsOwn kind
    → IsAtOnce kind wiring cycle count states
    → Starts kind cycle count (states 0) start
    → Runs kind wiring cycle count steps start last
    → AreOver count last
    → (unit : ℕ) → IsUnit count unit → last.units unit ≡ states 14 unit

-- the states of the units through a cycle in which they act at once, from given ones on
pub record GoesAtOnce {State : Type 0} (kind : Kind State) (wiring : Wiring) (cycle : Cycle) (count : ℕ)
    (units : ℕ → State) : Type 0 where
  pub states : ℕ → ℕ → State
  pub from : (unit : ℕ) → states 0 unit ≡ units unit
  pub at_once : IsAtOnce kind wiring cycle count states

-- Units in any states can act at once.
abbrev pub UnitsCanActAtOnce : Type 0 → Type 0
UnitsCanActAtOnce State =
    (kind : Kind State) (wiring : Wiring) (cycle : Cycle) (count : ℕ) (units : ℕ → State)
    → AreNumbered kind count units
    → GoesAtOnce kind wiring cycle count units

-- steps of the units through a cycle, from given states on until it is over for all
pub record GoesBySteps {State : Type 0} (kind : Kind State) (wiring : Wiring) (cycle : Cycle) (count : ℕ)
    (units : ℕ → State) : Type 0 where
  pub steps : List Step
  pub start : Served State
  pub last : Served State
  pub starts : Starts kind cycle count units start
  pub taken : Runs kind wiring cycle count steps start last
  pub over : AreOver count last

-- Units in any states can be served through a cycle.
abbrev pub UnitsCanGoBySteps : Type 0 → Type 0
UnitsCanGoBySteps State =
    (kind : Kind State) (wiring : Wiring) (cycle : Cycle) (count : ℕ) (units : ℕ → State)
    → GoesBySteps kind wiring cycle count units

-- After any steps the cycle is over for all, or some unit can step.
abbrev pub SomeUnitCanStep : Type 0 → Type 0
SomeUnitCanStep State =
    (kind : Kind State) (wiring : Wiring) (cycle : Cycle) (count : ℕ) (units : ℕ → State) (steps : List Step)
    (start now : Served State)
    → Starts kind cycle count units start
    → Runs kind wiring cycle count steps start now
    → AreOver count now ⊎ ((unit : ℕ) × CanStep wiring count now unit)

-- A cycle has two steps of each unit at each of the fourteen points.
abbrev pub CyclesHaveTheirSteps : Type 0 → Type 0
CyclesHaveTheirSteps State =
    (kind : Kind State) (wiring : Wiring) (cycle : Cycle) (count : ℕ) (units : ℕ → State) (steps : List Step)
    (start last : Served State)
    → Starts kind cycle count units start
    → Runs kind wiring cycle count steps start last
    → AreOver count last
    → length steps ≡ 28 * count

-- Rounds by orders that name all units are steps taken one after another until the cycle is over for all.
abbrev pub RoundsAreSteps : Type 0 → Type 0
RoundsAreSteps State =
    (kind : Kind State) (wiring : Wiring) (cycle : Cycle) (count : ℕ) (orders : List (List ℕ)) (start last : Served State)
    → Rounds kind wiring cycle count orders start last
    → (steps : List Step) × Runs kind wiring cycle count steps start last × AreOver count last

-- A cycle takes at most fifteen rounds, whatever the orders are, if each names all units.
abbrev pub RoundsAreFew : Type 0 → Type 0
RoundsAreFew State =
    (kind : Kind State) (wiring : Wiring) (cycle : Cycle) (count : ℕ) (units : ℕ → State) (orders : List (List ℕ))
    (start last : Served State)
    → All (NamesAll count) orders
    → Starts kind cycle count units start
    → Rounds kind wiring cycle count orders start last
    → length orders ≤ 15
