-- Assignments of counters to totals: each total has a counter of its own that is enough for it.
use Rattle.std.specs.Prelude.{◌≡◌, ℕ, List, length, Some, slice_get}
use Rattle.capacity.specs.Capacities.{Capacities}
use Rattle.chart_plans.specs.PlansWords.Counters.{HasCounter, IsEnoughFor, SharesGroup}
use Rattle.chart_plans.specs.declared.plans.counter.TotalCounter.{TotalCounter}
use Rattle.chart_plans.specs.declared.wanted.total.Total.{Total}

-- Each total has a counter of its own: as many counters as totals, each with groups of the machine, enough for its total, and
-- no group serves two totals.
pub record IsAssignment (totals : List Total) (machine : Capacities) (counters : List TotalCounter) : Type 0 where
  pub many : length counters ≡ length totals
  pub there : (place : ℕ) (counter : TotalCounter) → slice_get counters place ≡ Some counter → HasCounter machine counter
  pub enough :
      (place : ℕ) (total : Total) (counter : TotalCounter) → slice_get totals place ≡ Some total
      → slice_get counters place ≡ Some counter → IsEnoughFor total.need counter
  pub own :
      (one other : ℕ) (counter its_counter : TotalCounter) → slice_get counters one ≡ Some counter
      → slice_get counters other ≡ Some its_counter → SharesGroup counter its_counter → one ≡ other
