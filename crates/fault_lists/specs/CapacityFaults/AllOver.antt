-- All capacities of a machine that are exceeded, in the order in which they are asked.
use Rattle.std.specs.Prelude.{◌≡◌, ℕ, ◌⊎◌, List, [], ◌∷◌, ◌++◌}
use Rattle.allocate.specs.declared.fault.CapacityFault.{CapacityFault}
use Rattle.allocate.specs.declared.fault.CapacityFault.TheVariants as fault
use Rattle.capacity.specs.Capacities.{Capacities}
use Rattle.chart_plans.specs.PlansWords.Excess.{count_there, IsOver}
use Rattle.chart_plans.specs.WantedWords.Counts.{count_wanted}
use Rattle.chart_plans.specs.WantedWords.Units.{IsLowestOf}
use Rattle.chart_plans.specs.WantedWords.Wanted.{Wanted}
use Rattle.chart_plans.specs.declared.wanted.count.Capacity.{Capacity}
use Rattle.chart_plans.specs.declared.wanted.count.Capacity.TheVariants as of

-- A capacity is exceeded, and these are the counts of what is wanted and of what is there.
pub record IsOverBy (capacity : Capacity) (count there : ℕ) (wanted : Wanted) (machine : Capacities) : Type 0 where
  pub over : IsOver capacity wanted machine
  pub count_is : count ≡ count_wanted capacity wanted
  pub there_is : there ≡ count_there capacity machine

-- The fault tells of a capacity that is exceeded what is wanted and what is there, or the lowest line of a total text that is too wide.
abbrev pub Tells : Wanted → Capacities → Capacity → CapacityFault → Type 0
Tells wanted machine capacity (fault.Counters width count there) = (capacity ≡ of.Counters width) × IsOverBy capacity count there wanted machine
Tells wanted machine capacity (fault.Pilots count there) = (capacity ≡ of.Pilots) × IsOverBy capacity count there wanted machine
Tells wanted machine capacity (fault.Comparing count there) = (capacity ≡ of.Comparing) × IsOverBy capacity count there wanted machine
Tells wanted machine capacity (fault.StorageWidth line) =
    (capacity ≡ of.StorageWidth) × IsOver capacity wanted machine × IsLowestOf wanted.wide_texts line
Tells wanted machine capacity (fault.StorageUnits count there) = (capacity ≡ of.StorageUnits) × IsOverBy capacity count there wanted machine
Tells wanted machine capacity (fault.Splits count there) = (capacity ≡ of.Splits) × IsOverBy capacity count there wanted machine
Tells wanted machine capacity (fault.Indicate level count there) = (capacity ≡ of.Indicate level) × IsOverBy capacity count there wanted machine
Tells wanted machine capacity fault.Memory = ⊥

-- These are the faults of some capacities: one of each that is exceeded, and none of the others.
pub data AreAllOver (wanted : Wanted) (machine : Capacities) : List Capacity → List CapacityFault → Type 0 where
  none : AreAllOver wanted machine [] []
  over : (capacity : Capacity) (others : List Capacity) (fault : CapacityFault) (faults : List CapacityFault)
      → Tells wanted machine capacity fault → AreAllOver wanted machine others faults
      → AreAllOver wanted machine (capacity ∷ others) (fault ∷ faults)
  within : (capacity : Capacity) (others : List Capacity) (faults : List CapacityFault)
      → ¬ IsOver capacity wanted machine → AreAllOver wanted machine others faults
      → AreAllOver wanted machine (capacity ∷ others) faults

-- A helper of the code: the faults gain that of one capacity, if it is exceeded.
abbrev pub GainsOver : Wanted → Capacities → Capacity → (old new : List CapacityFault) → Type 0
GainsOver wanted machine capacity old new =
    ((told : CapacityFault) × Tells wanted machine capacity told × (new ≡ old ++ told ∷ []))
    ⊎ ((¬ IsOver capacity wanted machine) × (new ≡ old))

-- what was told of the first capacities, and what is told of the others, is what is told of all
abbrev pub GoesOn : Wanted → Capacities → (rest all : List Capacity) → (told : List CapacityFault) → Type 0
GoesOn wanted machine rest all told =
    (others : List CapacityFault) → AreAllOver wanted machine rest others → AreAllOver wanted machine all (told ++ others)
