-- The capacities of a machine, in the order in which they are asked, and the first that a chart exceeds. Each is a
-- comparison of two counts: what the chart wants, and what is there.
use Rattle.std.specs.Prelude.{◌≡◌, ℕ, ◌<◌, List, [], ◌∷◌, Option, Some, None, length, slice_get}
use Rattle.capacity.specs.Capacities.{Capacities}
use Rattle.chart_lines.specs.declared.charts.level.ControlLevel.TheVariants as control
use Rattle.chart_plans.specs.declared.wanted.count.Capacity.{Capacity}
use Rattle.chart_plans.specs.declared.wanted.count.Capacity.TheVariants as of
use Rattle.allocate.specs.declared.fault.CapacityFault.{CapacityFault}
use Rattle.allocate.specs.declared.fault.CapacityFault.TheVariants as fault
use Rattle.chart_plans.specs.WantedWords.Counts.{count_wanted}
use Rattle.chart_plans.specs.WantedWords.Units.{IsLowestOf}
use Rattle.chart_plans.specs.WantedWords.Wanted.{Wanted}
use Rattle.chart_plans.specs.PlansWords.Excess.{count_there, IsOver}

-- the number of a fault in the catalogue of faults; want of memory has none
abbrev pub fault_number : CapacityFault → Option ℕ
fault_number (fault.Counters width count there) = Some 61
fault_number (fault.Pilots count there) = Some 62
fault_number (fault.Comparing count there) = Some 63
fault_number (fault.StorageWidth line) = Some 64
fault_number (fault.StorageUnits count there) = Some 65
fault_number (fault.Splits count there) = Some 66
fault_number (fault.Indicate level count there) = Some 67
fault_number fault.Memory = None

-- the capacities in the order in which they are asked: 61 from the widest counter groups on, 62 to 66, 67 by level
unfoldable pub in_order : List Capacity
in_order =
    of.Counters 8 ∷ of.Counters 6 ∷ of.Counters 4 ∷ of.Counters 3 ∷ of.Pilots ∷ of.Comparing ∷ of.StorageWidth
    ∷ of.StorageUnits ∷ of.Splits ∷ of.Indicate control.Minor ∷ of.Indicate control.Intermediate ∷ of.Indicate control.Major ∷ []

-- none of the first capacities of a list is exceeded
abbrev pub NoneIsOver : List Capacity → ℕ → Wanted → Capacities → Type 0
NoneIsOver capacities count wanted machine =
    (place : ℕ) (capacity : Capacity) → place < count → slice_get capacities place ≡ Some capacity → ¬ IsOver capacity wanted machine

-- no capacity is exceeded: all that is wanted fits the machine
unfoldable pub FitsMachine : Wanted → Capacities → Type 0
FitsMachine wanted machine = NoneIsOver in_order (length in_order) wanted machine

-- a capacity is the first of a list that is exceeded
pub record IsFirstAmong (capacities : List Capacity) (first : Capacity) (wanted : Wanted) (machine : Capacities) : Type 0 where
  pub place : ℕ
  pub is_there : slice_get capacities place ≡ Some first
  pub none_before : NoneIsOver capacities place wanted machine
  pub over : IsOver first wanted machine

-- a capacity is the first that is exceeded
unfoldable pub IsFirstOver : Capacity → Wanted → Capacities → Type 0
IsFirstOver first wanted machine = IsFirstAmong in_order first wanted machine

-- a capacity is the first that is exceeded, and these are the counts of what is wanted and of what is there
pub record IsExceeded (first : Capacity) (count there : ℕ) (wanted : Wanted) (machine : Capacities) : Type 0 where
  pub first_over : IsFirstOver first wanted machine
  pub count_is : count ≡ count_wanted first wanted
  pub there_is : there ≡ count_there first machine

-- The fault of what a chart wants on a machine: the first capacity that it exceeds, with what is wanted and what is there,
-- or the lowest line of a total text that is too wide. No chart makes memory run out.
abbrev pub HasCapacityFault : Wanted → Capacities → CapacityFault → Type 0
HasCapacityFault wanted machine (fault.Counters width count there) = IsExceeded (of.Counters width) count there wanted machine
HasCapacityFault wanted machine (fault.Pilots count there) = IsExceeded of.Pilots count there wanted machine
HasCapacityFault wanted machine (fault.Comparing count there) = IsExceeded of.Comparing count there wanted machine
HasCapacityFault wanted machine (fault.StorageWidth line) = IsFirstOver of.StorageWidth wanted machine × IsLowestOf wanted.wide_texts line
HasCapacityFault wanted machine (fault.StorageUnits count there) = IsExceeded of.StorageUnits count there wanted machine
HasCapacityFault wanted machine (fault.Splits count there) = IsExceeded of.Splits count there wanted machine
HasCapacityFault wanted machine (fault.Indicate level count there) = IsExceeded (of.Indicate level) count there wanted machine
HasCapacityFault wanted machine fault.Memory = ⊥
