-- What serves a total: one counter group, or two groups of 8 that carry through both. The positions of a total are counted from 1 at
-- the units; those of two groups are first the lower group's, then the upper one's.
use Rattle.std.specs.Prelude.{◌≡◌, ℕ, ◌<◌, ◌≤◌, Option, Some, None, ◌⊎◌}
use Rattle.capacity.specs.Capacities.{Capacities, HasGroup}
use Rattle.capacity.specs.declared.group.CounterGroup.{CounterGroup}
use Rattle.chart_plans.specs.declared.plans.counter.TotalCounter.{TotalCounter}
use Rattle.chart_plans.specs.declared.plans.counter.TotalCounter.TheVariants as of

-- a group is one of those of a counter
abbrev pub IsGroupOf : TotalCounter → CounterGroup → Type 0
IsGroupOf (of.Single own) group = own ≡ group
IsGroupOf (of.Coupled lower upper) group = (lower ≡ group) ⊎ (upper ≡ group)

-- a group serves both
abbrev pub SharesGroup : (counter other : TotalCounter) → Type 0
SharesGroup counter (of.Single group) = IsGroupOf counter group
SharesGroup counter (of.Coupled lower upper) = IsGroupOf counter lower ⊎ IsGroupOf counter upper

-- a machine has the groups of a counter
abbrev pub HasCounter : Capacities → TotalCounter → Type 0
HasCounter machine (of.Single group) = HasGroup machine group
HasCounter machine (of.Coupled lower upper) = HasGroup machine lower × HasGroup machine upper

-- Two groups serve a total that needs more positions than one group has and no more than both have. Both are of 8 positions, and the
-- lower one has the lower number.
pub record ServesAsPair (need : ℕ) (lower upper : CounterGroup) : Type 0 where
  pub from : 8 < need
  pub to : need ≤ 16
  pub lower_width : lower.width ≡ 8
  pub upper_width : upper.width ≡ 8
  pub order : lower.number < upper.number

-- a counter is enough for a total that needs so many positions
abbrev pub IsEnoughFor : ℕ → TotalCounter → Type 0
IsEnoughFor need (of.Single group) = need ≤ group.width
IsEnoughFor need (of.Coupled lower upper) = ServesAsPair need lower upper

-- the group of a counter that has only one
abbrev pub single_group : TotalCounter → Option CounterGroup
single_group (of.Single group) = Some group
single_group (of.Coupled lower upper) = None
