-- A helper of the code: how totals take their counters one after the other. So far each total has a counter, or waits for one.
use Rattle.std.specs.Prelude.{◌≡◌, ◌≢◌, ◌⊎◌, ℕ, ◌<◌, ◌≤◌, Bool, true, false, List, length, map, Option, Some, None, slice_index_or}
use Rattle.capacity.specs.Capacities.{Capacities, HasGroup, groups_of}
use Rattle.capacity.specs.declared.group.CounterGroup.{CounterGroup}
use Rattle.allocate.specs.Groups.{takes_before}
use Rattle.chart_plans.specs.PlansWords.Counters.{IsGroupOf}
use Rattle.chart_plans.specs.declared.plans.counter.TotalCounter.{TotalCounter}
use Rattle.chart_plans.specs.declared.wanted.total.Total.{Total}

-- the counter that the total at a place has so far, if it has one
abbrev pub taken_at : List (Option TotalCounter) → ℕ → Option TotalCounter
taken_at taken place = slice_index_or taken place None

-- a counter, if there is one, has the group
abbrev pub IsHeld : Option TotalCounter → CounterGroup → Type 0
IsHeld (Some counter) group = IsGroupOf counter group
IsHeld None group = ⊥

-- some total has the group
pub record IsTaken (taken : List (Option TotalCounter)) (group : CounterGroup) : Type 0 where
  pub place : ℕ
  pub held : IsHeld (taken_at taken place) group

-- some total has the group, or it is the one that is set aside
abbrev pub IsUsed : List (Option TotalCounter) → Option CounterGroup → CounterGroup → Type 0
IsUsed taken aside group = IsTaken taken group ⊎ (aside ≡ Some group)

-- each total at a place below the bound has a counter
abbrev pub NoneWaitsBelow : ℕ → List (Option TotalCounter) → Type 0
NoneWaitsBelow bound taken = (place : ℕ) → place < bound → taken_at taken place ≢ None

-- each total has a counter
abbrev pub NoneWaits : List (Option TotalCounter) → Type 0
NoneWaits taken = NoneWaitsBelow (length taken) taken

-- Of the totals at places below the bound, the next to take a counter waits for one, and no other that waits goes before it.
pub record IsNext (totals : List Total) (taken : List (Option TotalCounter)) (bound place : ℕ) : Type 0 where
  pub within : place < bound
  pub waits : taken_at taken place ≡ None
  pub first : (other : ℕ) → other < bound → taken_at taken other ≡ None → takes_before totals other place ≡ false

-- whether the total at a place goes before the next one that was found so far, if any was
abbrev pub goes_first : List Total → ℕ → Option ℕ → Bool
goes_first totals place (Some other) = takes_before totals place other
goes_first totals place None = true

-- the lowest number of a width that is free
pub record IsLowestNumber (width : ℕ) (machine : Capacities) (IsTaken : CounterGroup → Type 0) (group : CounterGroup)
    : Type 0 where
  pub width_is : group.width ≡ width
  pub there : HasGroup machine group
  pub free : ¬ IsTaken group
  pub lowest : (number : ℕ) → 1 ≤ number → number < group.number → IsTaken (record { width = width; number = number })

-- each group of a width is taken
abbrev pub IsWidthTaken : ℕ → Capacities → (CounterGroup → Type 0) → Type 0
IsWidthTaken width machine IsTaken =
    (number : ℕ) → 1 ≤ number → number ≤ groups_of machine width → IsTaken (record { width = width; number = number })

-- each group that is wide enough is taken
abbrev pub AreAllTaken : ℕ → Capacities → (CounterGroup → Type 0) → Type 0
AreAllTaken need machine IsTaken =
    (group : CounterGroup) → HasGroup machine group → need ≤ group.width → IsTaken group

-- too few groups are free for a total: each that is wide enough is taken, or each of 8 but one where it takes two
abbrev pub AreTooFew : ℕ → Capacities → List (Option TotalCounter) → Type 0
AreTooFew need machine taken =
    ((need ≤ 8) × AreAllTaken need machine (IsUsed taken None))
    ⊎ ((8 < need) × (aside : Option CounterGroup) × AreAllTaken 8 machine (IsUsed taken aside))

-- each total has a counter, and these are the counters of the totals
abbrev pub AreTaken : List (Option TotalCounter) → List TotalCounter → Type 0
AreTaken taken counters = map Some counters ≡ taken
