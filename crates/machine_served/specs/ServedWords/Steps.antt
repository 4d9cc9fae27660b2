-- Units that run ahead of one another in a cycle. Each unit has its own point. There it emits, once, and then senses and goes on
-- to the next point, where all that it waits for have emitted at that point. The picture that it senses is made of what was
-- emitted there so far, by wires and by the contacts of the units that have come to the point, each as it was when it came.
use Rattle.std.specs.Prelude.{◌≡◌, ◌≢◌, ℕ, ◌+◌, ◌<◌, Bool, true, false, ◌||◌, ◌⊎◌, List, [], ◌∷◌}
use Rattle.hubs.specs.declared.hub.Hub.{Hub}
use Rattle.hubs.specs.SetupsWords.Wiring.{Wiring}
use Rattle.net.specs.Cycles.{point_at}
use Rattle.net.specs.Impulsed.{IsPicture}
use Rattle.net.specs.declared.cycle.Cycle.{Cycle}
use Rattle.net.specs.Units.{Kind}
use Rattle.machine_served.specs.ServedWords.Units.{IsUnit, all_close}
use Rattle.machine_served.specs.ServedWords.Waits.{WaitsFor}

-- What stands inside a cycle. For each unit its state, the place of the point to which it has come, 14 after the closing point,
-- and whether it has emitted there. For the place of each point the exits emitted there so far, and the contacts closed there by
-- the units that have come to it.
pub record Served (State : Type 0) : Type 0 where
  pub units : ℕ → State
  pub places : ℕ → ℕ
  pub emitted : ℕ → Bool
  pub exits : ℕ → Hub → Bool
  pub closed : ℕ → Hub → Bool

-- At the start of a cycle all units have come to the control point, and none has emitted.
pub record Starts {State : Type 0} (kind : Kind State) (cycle : Cycle) (count : ℕ) (units : ℕ → State)
    (served : Served State) : Type 0 where
  pub states : (unit : ℕ) → IsUnit count unit → served.units unit ≡ units unit
  pub places : (unit : ℕ) → IsUnit count unit → served.places unit ≡ 0
  pub emitted : (unit : ℕ) → IsUnit count unit → served.emitted unit ≡ false
  pub exits : (place : ℕ) (hub : Hub) → place < 14 → served.exits place hub ≡ false
  pub control_point : (hub : Hub) → served.closed 0 hub ≡ all_close kind count units cycle (point_at 0) hub
  pub later_points : (place : ℕ) (hub : Hub) → place < 14 → 0 < place → served.closed place hub ≡ false

-- a unit has emitted at the point with this place
abbrev pub HasEmitted : {State : Type 0} → Served State → ℕ → ℕ → Type 0
HasEmitted served unit place =
    (place < served.places unit) ⊎ ((served.places unit ≡ place) × (served.emitted unit ≡ true))

-- a unit may emit: its cycle is not over, and it has not emitted at its point
pub record MayEmit {State : Type 0} (served : Served State) (unit : ℕ) : Type 0 where
  pub within : served.places unit < 14
  pub silent : served.emitted unit ≡ false

-- a unit may sense: it has emitted at its point, and so have all that it waits for
pub record MaySense {State : Type 0} (wiring : Wiring) (count : ℕ) (served : Served State) (unit : ℕ) : Type 0 where
  pub within : served.places unit < 14
  pub emitted : served.emitted unit ≡ true
  pub waited :
      (other : ℕ) → IsUnit count other → WaitsFor wiring unit other → HasEmitted served other (served.places unit)

-- A unit emits: its exits join those of its point.
pub record Emits {State : Type 0} (kind : Kind State) (cycle : Cycle) (unit : ℕ) (old new : Served State) : Type 0 where
  pub allowed : MayEmit old unit
  pub units : (other : ℕ) → new.units other ≡ old.units other
  pub places : (other : ℕ) → new.places other ≡ old.places other
  pub own_emitted : new.emitted unit ≡ true
  pub other_emitted : (other : ℕ) → other ≢ unit → new.emitted other ≡ old.emitted other
  pub own_exits :
      (hub : Hub)
      → new.exits (old.places unit) hub
      ≡ (old.exits (old.places unit) hub || kind.emits (old.units unit) cycle (point_at (old.places unit)) hub)
  pub other_exits :
      (place : ℕ) (hub : Hub) → place < 14 → place ≢ old.places unit → new.exits place hub ≡ old.exits place hub
  pub closed : (place : ℕ) (hub : Hub) → place < 14 → new.closed place hub ≡ old.closed place hub

-- A unit senses the picture of its point as it stands so far, and comes to the next point: there it closes its contacts.
pub record Senses {State : Type 0} (kind : Kind State) (wiring : Wiring) (cycle : Cycle) (count unit : ℕ)
    (old new : Served State) : Type 0 where
  pub allowed : MaySense wiring count old unit
  pub picture : Hub → Bool
  pub is_picture : IsPicture wiring (old.exits (old.places unit)) (old.closed (old.places unit)) picture
  pub own_unit : new.units unit ≡ kind.sensed (old.units unit) cycle (point_at (old.places unit)) picture
  pub other_units : (other : ℕ) → other ≢ unit → new.units other ≡ old.units other
  pub own_place : new.places unit ≡ old.places unit + 1
  pub other_places : (other : ℕ) → other ≢ unit → new.places other ≡ old.places other
  pub own_emitted : new.emitted unit ≡ false
  pub other_emitted : (other : ℕ) → other ≢ unit → new.emitted other ≡ old.emitted other
  pub exits : (place : ℕ) (hub : Hub) → place < 14 → new.exits place hub ≡ old.exits place hub
  pub own_closed :
      (hub : Hub) → old.places unit + 1 < 14
      → new.closed (old.places unit + 1) hub
      ≡ (old.closed (old.places unit + 1) hub
      || kind.closes (new.units unit) cycle (point_at (old.places unit + 1)) hub)
  pub other_closed :
      (place : ℕ) (hub : Hub) → place < 14 → place ≢ old.places unit + 1
      → new.closed place hub ≡ old.closed place hub

-- a step: a unit, by its number, emits or senses
pub data Step : Type 0 where
  emission : ℕ → Step
  sensing : ℕ → Step

-- a step is taken by one of the units
abbrev pub Takes : {State : Type 0} → Kind State → Wiring → Cycle → ℕ → Step → Served State → Served State → Type 0
Takes kind wiring cycle count (emission unit) old new = IsUnit count unit × Emits kind cycle unit old new
Takes kind wiring cycle count (sensing unit) old new = IsUnit count unit × Senses kind wiring cycle count unit old new

-- steps are taken one after another
unfoldable pub Runs : {State : Type 0} → Kind State → Wiring → Cycle → ℕ → List Step → Served State → Served State → Type 0
Runs kind wiring cycle count [] old new = new ≡ old
Runs {State} kind wiring cycle count (step ∷ steps) old new =
    (mid : Served State)
    × Takes kind wiring cycle count step old mid
    × Runs kind wiring cycle count steps mid new

-- the cycle is over for all units
abbrev pub AreOver : {State : Type 0} → ℕ → Served State → Type 0
AreOver count served = (unit : ℕ) → IsUnit count unit → served.places unit ≡ 14

-- a unit can step
pub record CanStep {State : Type 0} (wiring : Wiring) (count : ℕ) (served : Served State) (unit : ℕ) : Type 0 where
  pub is_unit : IsUnit count unit
  pub may : MayEmit served unit ⊎ MaySense wiring count served unit
