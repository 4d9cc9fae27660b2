-- Counter groups that show a total, by the two wires that name the group of its units, and are too narrow for it.
use Rattle.std.specs.Prelude.{◌≡◌, ℕ, ◌<◌, List, Option, IfNone, IfSome}
use Rattle.capacity.specs.Capacities.{HasGroup, standard}
use Rattle.capacity.specs.declared.group.CounterGroup.{CounterGroup}
use Rattle.chart_lines.specs.ChartsWords.Levels.{level_number}
use Rattle.chart_lines.specs.declared.charts.chart.Line.{Line}
use Rattle.chart_lines.specs.declared.charts.statement.Statement.{Statement}
use Rattle.chart_lines.specs.declared.charts.statement.Statement.TheVariants as says
use Rattle.chart_lines.specs.declared.charts.statement.TotalLine.{TotalLine}
use Rattle.match_plans.specs.Shown.{ShowsUnits}
use Rattle.match_plans.specs.Totals.{its_need}
use Rattle.match_plans.specs.Wired.{TotalOn, units_wheel}
use Rattle.match_plans.specs.declared.narrow.Narrow.{Narrow}
use Rattle.hubs.specs.SetupsWords.Wiring.{Wiring}

-- A group shows a total of a level on the wheel of its units, and has too few positions for it, or for the lower half of one that takes two groups.
pub record IsNarrow (setup : Wiring) (level wheel need : ℕ) (group : CounterGroup) : Type 0 where
  pub shows : ShowsUnits setup level wheel group
  pub few : group.width < need
  pub half : group.width < 8

-- a group of the machine is so, and so many positions are needed
pub record NarrowFor (setup : Wiring) (level wheel need : ℕ) (found : Narrow) : Type 0 where
  pub there : HasGroup standard found.group
  pub narrow : IsNarrow setup level wheel need found.group
  pub needs : found.need ≡ need

-- a statement is a total of an amount
abbrev pub IsTotal : Statement → Type 0
IsTotal statement = (asked : TotalLine) × (statement ≡ says.TotalAmount asked)

-- What is found of a line of a chart: for its total such a group, if the machine has one that is so, and nothing if it is no total.
pub record IsNarrowOn (lines : List Line) (setup : Wiring) (line : Line) (found : Option Narrow) : Type 0 where
  pub only : IfSome found (λ _. IsTotal line.statement)
  pub is : (total : TotalOn lines line) → units_wheel lines line total < 256
      → IfSome found (NarrowFor setup (level_number total.asked.level) (units_wheel lines line total) (its_need lines line total))
  pub none : (total : TotalOn lines line) → units_wheel lines line total < 256
      → IfNone found ((group : CounterGroup) → HasGroup standard group
      → ¬ IsNarrow setup (level_number total.asked.level) (units_wheel lines line total) (its_need lines line total) group)
