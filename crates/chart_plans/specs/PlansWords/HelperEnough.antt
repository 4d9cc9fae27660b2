-- A helper of the code: whether counters are enough for totals.
use Rattle.std.specs.Prelude.{◌≡◌, ℕ, ◌+◌, ◌==◌, ◌&&◌, Bool, true, false, List, [], ◌∷◌, Option, Some, None, nat_le, nat_lt, slice_get}
use Rattle.capacity.specs.Capacities.{Capacities}
use Rattle.chart_plans.specs.PlansWords.Counters.{HasCounter, SharesGroup}
use Rattle.chart_plans.specs.declared.plans.counter.TotalCounter.{TotalCounter}
use Rattle.chart_plans.specs.declared.plans.counter.TotalCounter.TheVariants as of
use Rattle.chart_plans.specs.declared.wanted.total.Total.{Total}

-- whether a counter is enough for a total that needs so many positions
abbrev pub is_enough : ℕ → TotalCounter → Bool
is_enough need (of.Single group) = nat_le need group.width
is_enough need (of.Coupled lower upper) =
    nat_lt 8 need && (nat_le need 16 && ((lower.width == 8) && ((upper.width == 8) && nat_lt lower.number upper.number)))

-- whether there are as many counters as totals, each enough for its total
abbrev pub are_enough : List Total → List TotalCounter → Bool
are_enough [] [] = true
are_enough (total ∷ totals) (counter ∷ counters) = is_enough total.need counter && are_enough totals counters
are_enough totals counters = false

-- what is left of some counters where a total takes the first of them: they are enough for it and others where these are
-- enough for the others
abbrev pub IsLeftFor : Total → List TotalCounter → Option (List TotalCounter) → Type 0
IsLeftFor total counters (Some left) = (others : List Total) → are_enough (total ∷ others) counters ≡ are_enough others left
IsLeftFor total counters None = (others : List Total) → are_enough (total ∷ others) counters ≡ false

-- a machine has the groups of each of some counters
abbrev pub AreThere : Capacities → List TotalCounter → Type 0
AreThere machine counters = (place : ℕ) (counter : TotalCounter) → slice_get counters place ≡ Some counter → HasCounter machine counter

-- one of some counters shares a group with another counter
pub record SharesWithOne (counters : List TotalCounter) (other : TotalCounter) : Type 0 where
  pub place : ℕ
  pub counter : TotalCounter
  pub there : slice_get counters place ≡ Some counter
  pub shares : SharesGroup counter other

-- no group serves two
abbrev pub AreSingle : List TotalCounter → Type 0
AreSingle counters =
    (one other : ℕ) (counter its_counter : TotalCounter) → slice_get counters one ≡ Some counter
    → slice_get counters other ≡ Some its_counter → SharesGroup counter its_counter → one ≡ other

-- a machine has the groups of each of some counters, and none serves two
pub record AreOwn (machine : Capacities) (counters : List TotalCounter) : Type 0 where
  pub there : AreThere machine counters
  pub own : AreSingle counters
