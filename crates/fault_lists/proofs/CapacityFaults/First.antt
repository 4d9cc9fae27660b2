-- The first of all faults is the one that an allocation tells.
use Rattle.std.proofs.Common.{◌≡◌, ◌∙◌, refl, ap, subst, ℕ, zero, suc, List, [], ◌∷◌, Some, slice_get, length, arith}
use Rattle.allocate.proofs.Exclusions.{fitting_charts_have_no_fault}
use Rattle.allocate.proofs.OneFault.{charts_exceed_one_capacity}
use Rattle.allocate.specs.Exceeded.{HasCapacityFault, IsExceeded, IsFirstAmong, IsFirstOver, NoneIsOver, FitsMachine, in_order}
use Rattle.allocate.specs.declared.fault.CapacityFault.{CapacityFault}
use Rattle.allocate.specs.declared.fault.CapacityFault.TheVariants as fault
use Rattle.capacity.specs.Capacities.{Capacities}
use Rattle.fault_lists.specs.CapacityFaults.AllOver.{AreAllOver, IsOverBy, Tells, none, over, within}
use Rattle.chart_plans.specs.PlansWords.Excess.{IsOver, count_there}
use Rattle.chart_plans.specs.WantedWords.Counts.{count_wanted}
use Rattle.chart_plans.specs.WantedWords.Wanted.{Wanted}
use Rattle.chart_plans.specs.declared.wanted.count.Capacity.{Capacity}
use Rattle.chart_plans.specs.declared.wanted.count.Capacity.TheVariants as of

module _ (wanted : Wanted) (machine : Capacities) where
  -- what is told of a capacity says that it is exceeded
  is_over : (capacity : Capacity) (told : CapacityFault) → Tells wanted machine capacity told → IsOver capacity wanted machine
  is_over capacity (fault.Counters width count there) tells = tells.1.over
  is_over capacity (fault.Pilots count there) tells = tells.1.over
  is_over capacity (fault.Comparing count there) tells = tells.1.over
  is_over capacity (fault.StorageWidth line) tells = tells.1
  is_over capacity (fault.StorageUnits count there) tells = tells.1.over
  is_over capacity (fault.Splits count there) tells = tells.1.over
  is_over capacity (fault.Indicate level count there) tells = tells.1.over
  is_over capacity fault.Memory tells = absurd tells

  -- none of one capacity and of some others is exceeded
  none_of : (capacity : Capacity) (others : List Capacity) (count : ℕ) → ¬ IsOver capacity wanted machine → NoneIsOver others count wanted machine
      → NoneIsOver (capacity ∷ others) (suc count) wanted machine
  none_of capacity others count not_over rest zero one less at = λ is. not_over (subst (λ c. IsOver c wanted machine) (same at) is)
    where
      same : Some capacity ≡ Some one → one ≡ capacity
      same at = cc
  none_of capacity others count not_over rest (suc place) one less at = rest place one (omega (arith, less)) at

  -- The first of the faults tells of the first capacity that is exceeded.
  pub record IsFirstTold (capacities : List Capacity) (told : CapacityFault) : Type 0 where
    pub first : Capacity
    pub among : IsFirstAmong capacities first wanted machine
    pub tells : Tells wanted machine first told

  first_told : {capacities : List Capacity} {faults : List CapacityFault} → AreAllOver wanted machine capacities faults
      → (told : CapacityFault) (others : List CapacityFault) → faults ≡ told ∷ others → IsFirstTold capacities told
  first_told none told others is = cc
  first_told (over capacity rest one faults tells are) told others is = record {
    first = capacity;
    among = record { place = 0; is_there = refl; none_before = λ place each less. absurd (omega (arith, less)); over = is_over capacity one tells };
    tells = subst (Tells wanted machine capacity) (same is) tells;
  }
    where
      same : one ∷ faults ≡ told ∷ others → one ≡ told
      same is = cc
  first_told (within capacity rest faults not_over are) told others is =
      let later = first_told are told others is in
      record {
        first = later.first;
        among = record {
          place = suc later.among.place;
          is_there = later.among.is_there;
          none_before = none_of capacity rest later.among.place not_over later.among.none_before;
          over = later.among.over;
        };
        tells = later.tells;
      }

  -- where no fault is told, no capacity is exceeded
  none_told : {capacities : List Capacity} {faults : List CapacityFault} → AreAllOver wanted machine capacities faults → faults ≡ []
      → NoneIsOver capacities (length capacities) wanted machine
  none_told none is = λ place capacity less at. absurd (omega (arith, less))
  none_told (over capacity rest one faults tells are) is = cc
  none_told (within capacity rest faults not_over are) is = none_of capacity rest (length rest) not_over (none_told are is)

  -- a fault by the counts of the first capacity that is exceeded
  counted : (first capacity : Capacity) (count there : ℕ) → IsFirstAmong in_order first wanted machine → first ≡ capacity
      → IsOverBy first count there wanted machine → IsExceeded capacity count there wanted machine
  unfolding IsFirstOver
  counted first capacity count there among same by = record {
    first_over = subst (λ c. IsFirstAmong in_order c wanted machine) same among;
    count_is = by.count_is ∙ ap (λ c. count_wanted c wanted) same;
    there_is = by.there_is ∙ ap (λ c. count_there c machine) same;
  }

  -- a fault that tells of the first capacity that is exceeded is the fault of what is wanted
  has_fault : (told : CapacityFault) → IsFirstTold in_order told → HasCapacityFault wanted machine told
  unfolding IsFirstOver
  has_fault (fault.Counters width count there) is = counted is.first (of.Counters width) count there is.among is.tells.0 is.tells.1
  has_fault (fault.Pilots count there) is = counted is.first of.Pilots count there is.among is.tells.0 is.tells.1
  has_fault (fault.Comparing count there) is = counted is.first of.Comparing count there is.among is.tells.0 is.tells.1
  has_fault (fault.StorageWidth line) is = (subst (λ c. IsFirstAmong in_order c wanted machine) is.tells.0 is.among, is.tells.2)
  has_fault (fault.StorageUnits count there) is = counted is.first of.StorageUnits count there is.among is.tells.0 is.tells.1
  has_fault (fault.Splits count there) is = counted is.first of.Splits count there is.among is.tells.0 is.tells.1
  has_fault (fault.Indicate level count there) is = counted is.first (of.Indicate level) count there is.among is.tells.0 is.tells.1
  has_fault fault.Memory is = absurd is.tells

  -- no capacity is exceeded
  fits : NoneIsOver in_order (length in_order) wanted machine → FitsMachine wanted machine
  unfolding FitsMachine
  fits is = is

  -- so the fault of what is wanted is the first of all
  pub first_is : (told : CapacityFault) → HasCapacityFault wanted machine told → (all : List CapacityFault)
      → AreAllOver wanted machine in_order all → slice_get all 0 ≡ Some told
  first_is told has [] are = absurd (fitting_charts_have_no_fault wanted machine told (fits (none_told are refl)) has)
  first_is told has (one ∷ others) are =
      ap Some (charts_exceed_one_capacity wanted machine one told (has_fault one (first_told are one others refl)) has)
