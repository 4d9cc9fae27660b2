-- The first capacity that is exceeded is one, and so is what is told of it.
use Rattle.std.proofs.Common.{◌≡◌, ◌∙◌, refl, sym, ap, ℕ, ◌≤◌, ◌<◌, ◌⊎◌, inl, inr, List, Some, slice_get, arith}
use Rattle.std.proofs.lemmas.Bool.{cases_lt}
use Rattle.capacity.specs.Capacities.{Capacities}
use Rattle.allocate.specs.Exceeded.{HasCapacityFault, IsExceeded, IsFirstAmong, IsFirstOver, in_order}
use Rattle.chart_plans.specs.WantedWords.Units.{IsLowestOf}
use Rattle.chart_plans.specs.PlansWords.Excess.{count_there}
use Rattle.chart_plans.specs.WantedWords.Counts.{count_wanted}
use Rattle.allocate.specs.Laws.{ChartsExceedOneCapacity}
use Rattle.chart_plans.specs.WantedWords.Wanted.{Wanted}
use Rattle.chart_plans.specs.declared.wanted.count.Capacity.{Capacity}
use Rattle.chart_plans.specs.declared.wanted.count.Capacity.TheVariants as of
use Rattle.allocate.specs.declared.fault.CapacityFault.{CapacityFault}
use Rattle.allocate.specs.declared.fault.CapacityFault.TheVariants as fault

-- no capacity of a list that is exceeded stands before the first
place-lowest : (capacities : List Capacity) (one other : Capacity) (wanted : Wanted) (machine : Capacities)
    (is : IsFirstAmong capacities one wanted machine) (also : IsFirstAmong capacities other wanted machine) → is.place ≤ also.place
place-lowest capacities one other wanted machine is also = by (cases_lt also.place is.place)
  where
    by : ((also.place < is.place) ⊎ (is.place ≤ also.place)) → is.place ≤ also.place
    by (inl before) = absurd (is.none_before also.place other before also.is_there also.over)
    by (inr after) = after

-- so the first is one
same_first : (one other : Capacity) (wanted : Wanted) (machine : Capacities) → IsFirstOver one wanted machine
    → IsFirstOver other wanted machine → one ≡ other
unfolding IsFirstOver
same_first one other wanted machine is also =
    let below = place-lowest in_order one other wanted machine is also in
    let above = place-lowest in_order other one wanted machine also is in
    let places : is.place ≡ also.place = omega (arith, below, above) in
    let found : Some one ≡ Some other = sym is.is_there ∙ ap (slice_get in_order) places ∙ also.is_there in
    cc

-- the lowest of some lines is one
same_lowest : (lines : List ℕ) (one other : ℕ) → IsLowestOf lines one → IsLowestOf lines other → one ≡ other
same_lowest lines one other is also =
    let below = is.lowest other also.among in
    let above = also.lowest one is.among in
    omega (arith, below, above)

-- what is told of a capacity, by the counts of what is wanted and of what is there, or by a line
abbrev pub told_of : Capacity → ℕ → ℕ → ℕ → CapacityFault
told_of (of.Counters width) count there line = fault.Counters width count there
told_of of.Pilots count there line = fault.Pilots count there
told_of of.Comparing count there line = fault.Comparing count there
told_of of.StorageWidth count there line = fault.StorageWidth line
told_of of.StorageUnits count there line = fault.StorageUnits count there
told_of of.Splits count there line = fault.Splits count there
told_of (of.Indicate level) count there line = fault.Indicate level count there

-- a fault tells of the first capacity that is exceeded; its line counts for the widths of storage units alone
record Tells (wanted : Wanted) (machine : Capacities) (told : CapacityFault) : Type 0 where
  first : Capacity
  line : ℕ
  first_over : IsFirstOver first wanted machine
  lowest : first ≡ of.StorageWidth → IsLowestOf wanted.wide_texts line
  is : told ≡ told_of first (count_wanted first wanted) (count_there first machine) line

-- what is told by counts
Tells-counts : (wanted : Wanted) (machine : Capacities) (first : Capacity) (count there : ℕ) → (first ≡ of.StorageWidth → ⊥)
    → IsExceeded first count there wanted machine → Tells wanted machine (told_of first count there 0)
Tells-counts wanted machine first count there other has = record {
  first = first;
  line = 0;
  first_over = has.first_over;
  lowest = λ same. absurd (other same);
  is = ap (λ number. told_of first number there 0) has.count_is ∙ ap (λ number. told_of first (count_wanted first wanted) number 0) has.there_is;
}

-- each fault tells so
Tells-fault : (wanted : Wanted) (machine : Capacities) (told : CapacityFault) → HasCapacityFault wanted machine told → Tells wanted machine told
Tells-fault wanted machine (fault.Counters width count there) has = Tells-counts wanted machine (of.Counters width) count there (λ same. cc) has
Tells-fault wanted machine (fault.Pilots count there) has = Tells-counts wanted machine of.Pilots count there (λ same. cc) has
Tells-fault wanted machine (fault.Comparing count there) has = Tells-counts wanted machine of.Comparing count there (λ same. cc) has
Tells-fault wanted machine (fault.StorageWidth line) has = record {
  first = of.StorageWidth;
  line = line;
  first_over = has.0;
  lowest = λ same. has.1;
  is = refl;
}
Tells-fault wanted machine (fault.StorageUnits count there) has = Tells-counts wanted machine of.StorageUnits count there (λ same. cc) has
Tells-fault wanted machine (fault.Splits count there) has = Tells-counts wanted machine of.Splits count there (λ same. cc) has
Tells-fault wanted machine (fault.Indicate level count there) has = Tells-counts wanted machine (of.Indicate level) count there (λ same. cc) has
Tells-fault wanted machine fault.Memory has = absurd has

-- what is told of one capacity is one, whatever the line where no line is told
same_told : (wanted : Wanted) (first : Capacity) (count there line its_line : ℕ)
    → (first ≡ of.StorageWidth → IsLowestOf wanted.wide_texts line) → (first ≡ of.StorageWidth → IsLowestOf wanted.wide_texts its_line)
    → told_of first count there line ≡ told_of first count there its_line
same_told wanted of.StorageWidth count there line its_line is also =
    ap fault.StorageWidth (same_lowest wanted.wide_texts line its_line (is refl) (also refl))
same_told wanted other count there line its_line is also = refl

-- and what is told of the same capacity
same_fault : (wanted : Wanted) (machine : Capacities) (one other : CapacityFault) → Tells wanted machine one
    → Tells wanted machine other → one ≡ other
same_fault wanted machine one other is also =
    let firsts = same_first is.first also.first wanted machine is.first_over also.first_over in
    is.is
    ∙ same_told wanted is.first (count_wanted is.first wanted) (count_there is.first machine) is.line also.line is.lowest
    (λ same. also.lowest (sym firsts ∙ same))
    ∙ ap (λ each. told_of each (count_wanted each wanted) (count_there each machine) also.line) firsts
    ∙ sym also.is

pub charts_exceed_one_capacity : ChartsExceedOneCapacity
charts_exceed_one_capacity wanted machine one other is also =
    same_fault wanted machine one other (Tells-fault wanted machine one is) (Tells-fault wanted machine other also)
