-- A helper of the code: counter groups enough for some totals.
use Rattle.std.specs.Prelude.{◌<◌, List, All}
use Rattle.capacity.specs.Capacities.{Capacities, widths, groups_at_least}
use Rattle.chart_plans.specs.WantedWords.Totals.{wanted_at}
use Rattle.chart_plans.specs.declared.wanted.total.Total.{Total}

-- at no width more counter groups of it or a wider one are wanted than there are
abbrev pub HasGroupsFor : Capacities → List Total → Type 0
HasGroupsFor machine totals = All (λ width. ¬ (groups_at_least machine width < wanted_at width totals)) widths
