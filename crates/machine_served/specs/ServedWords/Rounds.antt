-- Units served in rounds. A round goes through an order of the units; each unit in turn takes all steps that it can.
use Rattle.std.specs.Prelude.{◌≡◌, ℕ, List, [], ◌∷◌}
use Rattle.hubs.specs.SetupsWords.Wiring.{Wiring}
use Rattle.net.specs.declared.cycle.Cycle.{Cycle}
use Rattle.net.specs.Units.{Kind}
use Rattle.machine_served.specs.ServedWords.Steps.{AreOver, CanStep, Runs, Served, Step}
use Rattle.machine_served.specs.ServedWords.Steps.Step.{emission, sensing}

-- the unit that takes a step
abbrev pub unit_of_step : Step → ℕ
unit_of_step (emission unit) = unit
unit_of_step (sensing unit) = unit

-- the steps are all of one unit
abbrev pub AreStepsOf : ℕ → List Step → Type 0
AreStepsOf unit [] = Unit {0}
AreStepsOf unit (step ∷ steps) = (unit_of_step step ≡ unit) × AreStepsOf unit steps

-- A turn of a unit: it takes steps until it can take none.
pub record Turn {State : Type 0} (kind : Kind State) (wiring : Wiring) (cycle : Cycle) (count unit : ℕ)
    (steps : List Step) (old new : Served State) : Type 0 where
  pub own : AreStepsOf unit steps
  pub taken : Runs kind wiring cycle count steps old new
  pub stops : CanStep wiring count new unit → ⊥

-- a round: the units of the order have their turns, one after another
unfoldable pub Round : {State : Type 0} → Kind State → Wiring → Cycle → ℕ → List ℕ → Served State → Served State → Type 0
Round kind wiring cycle count [] old new = new ≡ old
Round {State} kind wiring cycle count (unit ∷ others) old new =
    (mid : Served State)
    × (steps : List Step)
    × Turn kind wiring cycle count unit steps old mid
    × Round kind wiring cycle count others mid new

-- rounds by orders, one after another, each while the cycle is not over for all, until it is
unfoldable pub Rounds : {State : Type 0} → Kind State → Wiring → Cycle → ℕ → List (List ℕ) → Served State → Served State → Type 0
Rounds kind wiring cycle count [] old new = AreOver count old × (new ≡ old)
Rounds {State} kind wiring cycle count (order ∷ orders) old new =
    (mid : Served State)
    × (AreOver count old → ⊥)
    × Round kind wiring cycle count order old mid
    × Rounds kind wiring cycle count orders mid new
