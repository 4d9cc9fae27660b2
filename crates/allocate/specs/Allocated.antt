-- What is allocated: the counters by the rule, and the other parts by number in the order in which they are wanted.
use Rattle.std.specs.Prelude.{◌≡◌}
use Rattle.capacity.specs.Capacities.{Capacities}
use Rattle.chart_plans.specs.WantedWords.Wanted.{Wanted}
use Rattle.chart_plans.specs.PlansWords.PartNumbers.{AreInOrder}
use Rattle.chart_plans.specs.PlansWords.Plans.{Lists}
use Rattle.allocate.specs.Groups.{IsByRule}

-- The plan of what is wanted on a machine: the counters by the rule of allocation, and of each other kind the parts 1, 2 and so on, in
-- the order in which they are wanted.
pub record IsPlanOf (wanted : Wanted) (machine : Capacities) (plan : Lists) : Type 0 where
  pub counters : IsByRule wanted.totals machine plan.counters
  pub parts : plan.parts ≡ wanted.parts
  pub numbers : AreInOrder wanted.parts plan.numbers
