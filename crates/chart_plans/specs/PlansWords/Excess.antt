-- What exceeds a machine: a capacity of which a chart wants more than is there.
use Rattle.std.specs.Prelude.{ℕ, ◌<◌}
use Rattle.capacity.specs.Capacities.{Capacities, groups_at_least}
use Rattle.chart_plans.specs.WantedWords.Counts.{count_wanted}
use Rattle.chart_plans.specs.WantedWords.Wanted.{Wanted}
use Rattle.chart_plans.specs.declared.wanted.count.Capacity.{Capacity}
use Rattle.chart_plans.specs.declared.wanted.count.Capacity.TheVariants as of

-- how many a machine has: at a width, the counter groups of that width or a greater one; no storage unit is wider than 16
abbrev pub count_there : Capacity → Capacities → ℕ
count_there (of.Counters width) machine = groups_at_least machine width
count_there of.Pilots machine = machine.pilots
count_there of.Comparing machine = machine.comparing
count_there of.StorageWidth machine = 0
count_there of.StorageUnits machine = machine.storage
count_there of.Splits machine = machine.splits
count_there (of.Indicate level) machine = machine.indicate

-- a capacity is exceeded: more are wanted than are there
abbrev pub IsOver : Capacity → Wanted → Capacities → Type 0
IsOver capacity wanted machine = count_there capacity machine < count_wanted capacity wanted
