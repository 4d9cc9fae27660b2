-- The capacities in the order in which they are asked.
use Rattle.std.proofs.Common.{length, Option, IfNone, IfSome, refl, arith}
use Rattle.capacity.specs.Capacities.{Capacities}
use Rattle.chart_plans.specs.declared.wanted.count.Capacity.{Capacity}
use Rattle.chart_plans.specs.declared.wanted.count.Capacity.TheVariants as of
use Rattle.chart_lines.specs.declared.charts.level.ControlLevel.TheVariants as control
use Rattle.chart_plans.specs.WantedWords.Wanted.{Wanted}
use Rattle.chart_plans.specs.PlansWords.Excess.{IsOver}
use Rattle.allocate.specs.Exceeded.{NoneIsOver, FitsMachine, IsFirstAmong, IsFirstOver, in_order}

-- what the search among the capacities in order tells
pub IfNone-fits : (wanted : Wanted) (machine : Capacities) (found : Option Capacity)
    → IfNone found (NoneIsOver in_order (length in_order) wanted machine) → IfNone found (FitsMachine wanted machine)
unfolding FitsMachine
IfNone-fits wanted machine found none = none

pub IfSome-first : (wanted : Wanted) (machine : Capacities) (found : Option Capacity)
    → IfSome found (λ first. IsFirstAmong in_order first wanted machine) → IfSome found (λ first. IsFirstOver first wanted machine)
unfolding IsFirstOver
IfSome-first wanted machine found some = some

-- the first that is exceeded is exceeded
pub IsOver-first : (first : Capacity) (wanted : Wanted) (machine : Capacities) → IsFirstOver first wanted machine → IsOver first wanted machine
unfolding IsFirstOver
IsOver-first first wanted machine found = found.over

-- where all fits, no capacity in order is exceeded
pub record NotOver (wanted : Wanted) (machine : Capacities) : Type 0 where
  pub eights : ¬ IsOver (of.Counters 8) wanted machine
  pub sixes : ¬ IsOver (of.Counters 6) wanted machine
  pub fours : ¬ IsOver (of.Counters 4) wanted machine
  pub threes : ¬ IsOver (of.Counters 3) wanted machine
  pub pilots : ¬ IsOver of.Pilots wanted machine
  pub comparing : ¬ IsOver of.Comparing wanted machine
  pub storage_width : ¬ IsOver of.StorageWidth wanted machine
  pub storage_units : ¬ IsOver of.StorageUnits wanted machine
  pub splits : ¬ IsOver of.Splits wanted machine
  pub minor : ¬ IsOver (of.Indicate control.Minor) wanted machine
  pub intermediate : ¬ IsOver (of.Indicate control.Intermediate) wanted machine
  pub major : ¬ IsOver (of.Indicate control.Major) wanted machine

pub NotOver-fits : (wanted : Wanted) (machine : Capacities) → FitsMachine wanted machine → NotOver wanted machine
unfolding FitsMachine in_order
NotOver-fits wanted machine fits = record {
  eights = fits 0 (of.Counters 8) (omega arith) refl;
  sixes = fits 1 (of.Counters 6) (omega arith) refl;
  fours = fits 2 (of.Counters 4) (omega arith) refl;
  threes = fits 3 (of.Counters 3) (omega arith) refl;
  pilots = fits 4 of.Pilots (omega arith) refl;
  comparing = fits 5 of.Comparing (omega arith) refl;
  storage_width = fits 6 of.StorageWidth (omega arith) refl;
  storage_units = fits 7 of.StorageUnits (omega arith) refl;
  splits = fits 8 of.Splits (omega arith) refl;
  minor = fits 9 (of.Indicate control.Minor) (omega arith) refl;
  intermediate = fits 10 (of.Indicate control.Intermediate) (omega arith) refl;
  major = fits 11 (of.Indicate control.Major) (omega arith) refl;
}
