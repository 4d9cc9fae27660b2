-- How many hubs the pictures have that the units sense, all together.
use Rattle.std.specs.Prelude.{◌≡◌, ℕ, zero, suc, ◌+◌, Bool, List, [], ◌∷◌, Some, if◌then◌else◌}
use Rattle.hubs.specs.Hubs.{number_of}
use Rattle.hubs.specs.declared.hub.Hub.{Hub}
use Rattle.net.specs.declared.cycle.Cycle.{Cycle}
use Rattle.machine_served.specs.ServedWords.Orders.{unit_count}
use Rattle.machine_served.specs.ServedWords.Rounds.{Round, Rounds, Turn}
use Rattle.machine_served.specs.ServedWords.Steps.{Runs, Senses, Served, Step}
use Rattle.machine_served.specs.ServedWords.Steps.Step.{emission, sensing}
use Rattle.machine_served.specs.ServedUnits.AnyUnit.{AnyUnit, any_kind}
use Rattle.hubs.specs.SetupsWords.Wiring.{Wiring}

-- how many hubs the panel has
abbrev pub hub_count : ℕ
hub_count = 1936

-- whether the hub with a number is in a set
pub record IsIn (set : Hub → Bool) (number : ℕ) (answer : Bool) : Type 0 where
  pub hub : Hub
  pub numbered : number_of hub ≡ Some number
  pub told : set hub ≡ answer

-- so many of the hubs with the numbers from 1 up to the last are in a set
unfoldable pub HasUpTo : (Hub → Bool) → ℕ → ℕ → Type 0
HasUpTo set zero size = size ≡ 0
HasUpTo set (suc last) size =
    (here : Bool)
    × (below : ℕ)
    × IsIn set (suc last) here
    × HasUpTo set last below
    × (size ≡ below + (if here then 1 else 0))

-- a set has so many hubs of the panel
abbrev pub HasSize : (Hub → Bool) → ℕ → Type 0
HasSize set size = HasUpTo set hub_count size

-- the pictures that are sensed in steps have so many hubs
unfoldable pub StepsSee :
    (wiring : Wiring) (cycle : Cycle) (steps : List Step) (old new : Served AnyUnit)
    → Runs any_kind wiring cycle unit_count steps old new → ℕ → Type 0
unfolding Runs
StepsSee wiring cycle [] old new runs seen = seen ≡ 0
StepsSee wiring cycle (emission unit ∷ steps) old new runs seen = StepsSee wiring cycle steps runs.0 new runs.2 seen
StepsSee wiring cycle (sensing unit ∷ steps) old new runs seen =
    (first others : ℕ)
    × HasSize runs.1.1.picture first
    × StepsSee wiring cycle steps runs.0 new runs.2 others
    × (seen ≡ first + others)

-- so do those that are sensed in a round
unfoldable pub RoundSees :
    (wiring : Wiring) (cycle : Cycle) (order : List ℕ) (old new : Served AnyUnit)
    → Round any_kind wiring cycle unit_count order old new → ℕ → Type 0
unfolding Round
RoundSees wiring cycle [] old new round seen = seen ≡ 0
RoundSees wiring cycle (unit ∷ units) old new round seen =
    (first others : ℕ)
    × StepsSee wiring cycle round.1 old round.0 round.2.taken first
    × RoundSees wiring cycle units round.0 new round.3 others
    × (seen ≡ first + others)

-- and so do those that are sensed in the rounds of a cycle
unfoldable pub RoundsSee :
    (wiring : Wiring) (cycle : Cycle) (orders : List (List ℕ)) (old new : Served AnyUnit)
    → Rounds any_kind wiring cycle unit_count orders old new → ℕ → Type 0
unfolding Rounds
RoundsSee wiring cycle [] old new rounds seen = seen ≡ 0
RoundsSee wiring cycle (order ∷ orders) old new rounds seen =
    (first others : ℕ)
    × RoundSees wiring cycle order old rounds.0 rounds.2 first
    × RoundsSee wiring cycle orders rounds.0 new rounds.3 others
    × (seen ≡ first + others)

-- Helper words: steps, turns and rounds with how much is seen in them.

-- a unit senses a picture of so many hubs
pub record SensesSo (wiring : Wiring) (cycle : Cycle) (unit : ℕ) (old new : Served AnyUnit) (seen : ℕ) : Type 0 where
  pub senses : Senses any_kind wiring cycle unit_count unit old new
  pub size : HasSize senses.picture seen

-- a turn of a unit, in which so much is seen
pub record TurnSees (wiring : Wiring) (cycle : Cycle) (unit : ℕ) (old new : Served AnyUnit) (seen : ℕ) : Type 0 where
  pub steps : List Step
  pub turn : Turn any_kind wiring cycle unit_count unit steps old new
  pub sees : StepsSee wiring cycle steps old new turn.taken seen

-- a round, in which so much is seen
pub record RoundIs (wiring : Wiring) (cycle : Cycle) (order : List ℕ) (old new : Served AnyUnit) (seen : ℕ) : Type 0 where
  pub round : Round any_kind wiring cycle unit_count order old new
  pub sees : RoundSees wiring cycle order old new round seen
