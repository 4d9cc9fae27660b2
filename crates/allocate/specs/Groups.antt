-- The counter groups that totals take, by need, the greatest first, then by level, then by line: a total that needs more
-- than 8 positions takes the two lowest numbers that are free of the groups of 8, and any other the lowest number that is
-- free of the smallest width that is enough and still has one free.
use Rattle.std.specs.Prelude.{◌≡◌, ◌⊎◌, ℕ, ◌<◌, ◌≤◌, nat_eq, nat_lt, Bool, true, ◌&&◌, ◌||◌}
use Rattle.std.specs.Prelude.{List, length, slice_index_or}
use Rattle.capacity.specs.Capacities.{Capacities, HasGroup}
use Rattle.capacity.specs.declared.group.CounterGroup.{CounterGroup}
use Rattle.chart_lines.specs.ChartsWords.Levels.{level_number}
use Rattle.chart_lines.specs.declared.charts.level.Level.TheVariants as level
use Rattle.chart_plans.specs.PlansWords.Counters.{IsGroupOf}
use Rattle.chart_plans.specs.declared.plans.counter.TotalCounter.{TotalCounter}
use Rattle.chart_plans.specs.declared.plans.counter.TotalCounter.TheVariants as of
use Rattle.chart_plans.specs.declared.wanted.total.Total.{Total}

-- the total at a place of the list; past its end one that needs nothing
abbrev pub total_at : List Total → ℕ → Total
total_at totals place = slice_index_or totals place (record { level = level.Minor; line = 0; need = 0 })

-- the counter at a place of the list; past its end one that no machine has
abbrev pub counter_at : List TotalCounter → ℕ → TotalCounter
counter_at counters place = slice_index_or counters place (of.Single (record { width = 0; number = 0 }))

-- one comes before another by a number of theirs, or, where these are equal, by what is compared next
abbrev pub is_before : ℕ → ℕ → Bool → Bool
is_before one other next = nat_lt one other || (nat_eq one other && next)

-- Of the totals at two places, one takes its group before the other: the one of the greater need, else of the lower
-- level, else of the lower line, else the one that is listed first (though no two totals of a chart have one line).
abbrev pub takes_before : List Total → ℕ → ℕ → Bool
takes_before totals place later =
    let one = total_at totals place in
    let other = total_at totals later in
    is_before other.need one.need (is_before (level_number one.level) (level_number other.level) (is_before one.line other.line (nat_lt place later)))

-- a total of the list that takes its group before the one at this place
abbrev pub TakesBefore : List Total → ℕ → ℕ → Type 0
TakesBefore totals earlier place = (earlier < length totals) × (takes_before totals earlier place ≡ true)

-- groups are lower by width, then by number
abbrev pub is_lower : CounterGroup → CounterGroup → Bool
is_lower one other = is_before one.width other.width (nat_lt one.number other.number)

-- The lowest group, by width and then by number, of those of a machine that have so many positions and are not taken.
pub record IsLowestFree (need : ℕ) (machine : Capacities) (IsTaken : CounterGroup → Type 0) (group : CounterGroup)
    : Type 0 where
  pub there : HasGroup machine group
  pub enough : need ≤ group.width
  pub free : ¬ IsTaken group
  pub lowest :
      (other : CounterGroup) → HasGroup machine other → need ≤ other.width → is_lower other group ≡ true → IsTaken other

-- The two groups that a total takes where one has too few positions for it: the lowest of 8 that is free, and the next.
pub record AreLowestTwo (need : ℕ) (machine : Capacities) (IsTaken : CounterGroup → Type 0) (lower upper : CounterGroup)
    : Type 0 where
  pub two : 8 < need
  pub first : IsLowestFree 8 machine IsTaken lower
  pub second : IsLowestFree 8 machine (λ group. IsTaken group ⊎ (lower ≡ group)) upper

-- what a total that needs so many positions takes where some groups of a machine are taken
abbrev pub Takes : ℕ → Capacities → (CounterGroup → Type 0) → TotalCounter → Type 0
Takes need machine IsTaken (of.Single group) = IsLowestFree need machine IsTaken group
Takes need machine IsTaken (of.Coupled lower upper) = AreLowestTwo need machine IsTaken lower upper

-- a total that takes before the one at this place has the group
pub record IsTakenBefore (totals : List Total) (counters : List TotalCounter) (place : ℕ) (group : CounterGroup)
    : Type 0 where
  pub earlier : ℕ
  pub before : TakesBefore totals earlier place
  pub has : IsGroupOf (counter_at counters earlier) group

-- the counters of totals, in the order of the totals, are those that the rule gives them
pub record IsByRule (totals : List Total) (machine : Capacities) (counters : List TotalCounter) : Type 0 where
  pub many : length counters ≡ length totals
  pub each :
      (place : ℕ) → place < length totals
      → Takes (total_at totals place).need machine (IsTakenBefore totals counters place) (counter_at counters place)
