-- Where all that is wanted fits a machine, no capacity is exceeded first.
use Rattle.std.proofs.lemmas.Option.{slice_get_within}
use Rattle.capacity.specs.Capacities.{Capacities}
use Rattle.allocate.specs.Exceeded.{FitsMachine, IsFirstOver, in_order}
use Rattle.allocate.specs.Laws.{FittingChartsHaveNoFault}
use Rattle.chart_plans.specs.WantedWords.Wanted.{Wanted}
use Rattle.chart_plans.specs.declared.wanted.count.Capacity.{Capacity}
use Rattle.allocate.specs.declared.fault.CapacityFault.TheVariants as fault

-- no capacity is the first that is exceeded
none_first : (first : Capacity) (wanted : Wanted) (machine : Capacities) → FitsMachine wanted machine → IsFirstOver first wanted machine → ⊥
unfolding FitsMachine IsFirstOver
none_first first wanted machine fits is =
    fits is.place first (slice_get_within in_order is.place first is.is_there) is.is_there is.over

-- and so there is no fault
pub fitting_charts_have_no_fault : FittingChartsHaveNoFault
fitting_charts_have_no_fault wanted machine (fault.Counters width count there) fits has =
    none_first _ wanted machine fits has.first_over
fitting_charts_have_no_fault wanted machine (fault.Pilots count there) fits has =
    none_first _ wanted machine fits has.first_over
fitting_charts_have_no_fault wanted machine (fault.Comparing count there) fits has =
    none_first _ wanted machine fits has.first_over
fitting_charts_have_no_fault wanted machine (fault.StorageWidth line) fits has = none_first _ wanted machine fits has.0
fitting_charts_have_no_fault wanted machine (fault.StorageUnits count there) fits has =
    none_first _ wanted machine fits has.first_over
fitting_charts_have_no_fault wanted machine (fault.Splits count there) fits has =
    none_first _ wanted machine fits has.first_over
fitting_charts_have_no_fault wanted machine (fault.Indicate level count there) fits has =
    none_first _ wanted machine fits has.first_over
fitting_charts_have_no_fault wanted machine fault.Memory fits has = has
