-- The carry, place by place. A wheel gets one more step exactly where, going down from the next lower one, some wheel
-- passed from 9 to 0 and all between stand at 9; or where a carry came in at the units and all lower ones stand at 9. In a ring
-- the top follows the lowest, and the way goes on as far as the wheel itself.
use Rattle.std.specs.Prelude.{◌≡◌, ℕ, ◌+◌, ◌<◌, ◌%◌, ◌⊎◌, Bool, true, List, [], ◌++◌, length, take, drop, if◌then◌else◌, slice_index, slice_index_or}
use Rattle.counters.specs.Wheels.{Wheel, passes, stands, turned, turned_round}

-- the wheel at a place, the first one at 0; one at rest where there is none
abbrev pub wheel_at : List Wheel → ℕ → Wheel
wheel_at wheels place = slice_index_or wheels place (record { base = 0; advance = 0 })

-- the wheels below a place, the nearest first; in a ring then those from the top to the place itself
abbrev pub wheels_below : Bool → List Wheel → ℕ → List Wheel
wheels_below is_ring wheels place = drop (place + 1) wheels ++ (if is_ring then take (place + 1) wheels else [])

-- A carry comes from below: some wheel passed, and all that are nearer stand at 9.
pub record GetsCarry (below : List Wheel) : Type 0 where
  pub from : ℕ
  pub within : from < length below
  pub passed : passes (wheel_at below from) ≡ true
  pub between : (place : ℕ) → place < from → stands (wheel_at below place) ≡ 9

-- All wheels pass a carry on that came in at the lowest: it came in, and they stand at 9.
pub record PassOn (carry : Bool) (below : List Wheel) : Type 0 where
  pub came : carry ≡ true
  pub nines : (place : ℕ) → place < length below → stands (wheel_at below place) ≡ 9

-- Digits follow from wheels: one more step where a place gets it, and none elsewhere.
pub record FollowsSteps (GetsStep : ℕ → Type 0) (wheels : List Wheel) (digits : List ℕ) : Type 0 where
  pub as_many : length digits ≡ length wheels
  pub stepped :
      (place : ℕ) → place < length wheels → GetsStep place
      → slice_index digits place ≡ (stands (wheel_at wheels place) + 1) % 10
  pub others :
      (place : ℕ) → place < length wheels → ¬ GetsStep place → slice_index digits place ≡ stands (wheel_at wheels place)

-- The wheels of a group turn by the rule, whether a carry comes in at the units or not.
abbrev pub WheelsFollowCarryRule : Type 0
WheelsFollowCarryRule =
    (carry : Bool) (wheels : List Wheel)
    → FollowsSteps (λ place. GetsCarry (drop (place + 1) wheels) ⊎ PassOn carry (drop (place + 1) wheels)) wheels (turned wheels carry)

-- Where the carry that comes in is that of a ring, or none without one, they turn by the rule of the ring's order.
abbrev pub RingsFollowCarryRule : Type 0
RingsFollowCarryRule =
    (is_ring : Bool) (wheels : List Wheel)
    → FollowsSteps (λ place. GetsCarry (wheels_below is_ring wheels place)) wheels (turned_round is_ring wheels)
