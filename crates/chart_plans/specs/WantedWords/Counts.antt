-- How much of each capacity of a machine a chart wants: of each but the counter groups, as many as it has on its list.
use Rattle.std.specs.Prelude.{ℕ, length}
use Rattle.chart_plans.specs.WantedWords.Totals.{wanted_at}
use Rattle.chart_plans.specs.WantedWords.Wanted.{Wanted, indicate_at}
use Rattle.chart_plans.specs.declared.wanted.count.Capacity.{Capacity}
use Rattle.chart_plans.specs.declared.wanted.count.Capacity.TheVariants as of

-- How many are wanted: at a width of counter groups, a group for each total of that class
-- or a wider one, and a second one for each that takes two; a pilot for each signed
-- amount that is shown; a comparing position for each column of each CONTROL line; a storage unit wider than 16 columns for
-- each total text that is; a storage unit for each total text; a split for each DETAIL amount with its sign column inside;
-- an indicate position of a level for each column of each INDICATE item.
abbrev pub count_wanted : Capacity → Wanted → ℕ
count_wanted (of.Counters width) wanted = wanted_at width wanted.totals
count_wanted of.Pilots wanted = length wanted.parts.pilots
count_wanted of.Comparing wanted = length wanted.parts.comparing
count_wanted of.StorageWidth wanted = length wanted.wide_texts
count_wanted of.StorageUnits wanted = length wanted.parts.storage
count_wanted of.Splits wanted = length wanted.parts.splits
count_wanted (of.Indicate level) wanted = length (indicate_at wanted.parts level)
