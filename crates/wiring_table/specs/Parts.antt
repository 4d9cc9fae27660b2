-- Which parts of the machine serve what of a chart, by its plan, and which totals of an amount come one above the other.
use Rattle.std.specs.Prelude.{◌≡◌, ℕ, ◌+◌, ◌<◌, ◌≤◌, ◌==◌, ◌&&◌, Bool, List, Contains, Option, Some, find, option_and_then, option_map, true, false, ◌⊎◌}
use Rattle.chart_plans.specs.WantedWords.ChartTotals.{totals_of}
use Rattle.chart_plans.specs.PlansWords.Counters.{single_group}
use Rattle.chart_plans.specs.PlansWords.PartNumbers.{number_for, numbers_of}
use Rattle.chart_plans.specs.PlansWords.Plans.{Lists, counter_on}
use Rattle.chart_plans.specs.declared.plans.counter.TotalCounter.{TotalCounter}
use Rattle.chart_plans.specs.declared.plans.part_numbers.PartKind.TheVariants.{Indicate}
use Rattle.chart_plans.specs.declared.plans.counter.TotalCounter.TheVariants as of
use Rattle.chart_plans.specs.WantedWords.Positions.{is_same_position}
use Rattle.chart_plans.specs.WantedWords.Wanted.{indicate_at}
use Rattle.chart_plans.specs.declared.wanted.position.Position.{Position}
use Rattle.chart_plans.specs.Below.capacity.declared.group.CounterGroup.{CounterGroup}
use Rattle.chart_plans.specs.Below.chart_lines.ChartsWords.Levels.{level_number}
use Rattle.chart_plans.specs.Below.chart_lines.ChartsWords.Name.{is_same_name}
use Rattle.chart_plans.specs.Below.chart_lines.declared.charts.chart.Line.{Line}
use Rattle.chart_plans.specs.Below.chart_lines.declared.charts.level.ControlLevel.{ControlLevel}
use Rattle.chart_plans.specs.Below.chart_lines.declared.charts.statement.BodyLine.{BodyLine}
use Rattle.chart_plans.specs.Below.chart_lines.declared.charts.statement.BodyLine.TheVariants as body
use Rattle.chart_plans.specs.Below.chart_lines.declared.charts.statement.SignRule.{SignRule}
use Rattle.chart_plans.specs.Below.chart_lines.declared.charts.statement.SignRule.TheVariants as sign
use Rattle.chart_plans.specs.Below.chart_lines.declared.charts.statement.Statement.{Statement}
use Rattle.chart_plans.specs.Below.chart_lines.declared.charts.statement.Statement.TheVariants as says
use Rattle.chart_plans.specs.Below.chart_lines.declared.charts.statement.TotalLine.{TotalLine}
use Rattle.hubs.specs.declared.hub.Group.{Group}
use Rattle.hubs.specs.declared.hub.Hub.{Hub}
use Rattle.hubs.specs.declared.hub.Hub.TheVariants.{CC, PIN, PIT, PX}

-- a counter group of the plan as a group of the panel
abbrev pub panel_group : CounterGroup → Group
panel_group group = record { width = group.width; number = group.number }

-- a group of the panel is one of those of a counter
abbrev pub HasPanelGroup : TotalCounter → Group → Type 0
HasPanelGroup (of.Single own) group = panel_group own ≡ group
HasPanelGroup (of.Coupled lower upper) group = (panel_group lower ≡ group) ⊎ (panel_group upper ≡ group)

-- the group of the highest positions of a counter; the balance of the total is that of this group
abbrev pub top_group : TotalCounter → Group
top_group (of.Single group) = panel_group group
top_group (of.Coupled lower upper) = panel_group upper

-- A position of a counter stands at a place of a group of the panel. The positions of two groups are first those of the lower
-- group, then those of the upper one.
abbrev pub StandsAt : TotalCounter → (position : ℕ) → Group → (place : ℕ) → Type 0
StandsAt (of.Single own) position group place = (panel_group own ≡ group) × (position ≡ place)
StandsAt (of.Coupled lower upper) position group place =
    ((panel_group lower ≡ group) × (position ≡ place)) ⊎ ((panel_group upper ≡ group) × (position ≡ lower.width + place))

-- A position of a counter is a place of one of its groups, counted from 1 at the units of that group.
pub record IsPlaceOf (counter : TotalCounter) (position : ℕ) (group : Group) (place : ℕ) : Type 0 where
  pub from : 1 ≤ place
  pub to : place ≤ group.width
  pub at : StandsAt counter position group place

-- the counter of the total on a line of the chart
abbrev pub counter_for : List Line → Lists → ℕ → Option TotalCounter
counter_for lines plan number = counter_on (totals_of lines) plan.counters number

-- the counter group of the total on a line of the chart that has only one
abbrev pub group_for : List Line → Lists → ℕ → Option Group
group_for lines plan number = option_map panel_group (option_and_then single_group (counter_for lines plan number))

-- A counter group serves the total on a line of the chart: it is one of those of its counter.
pub record ServesTotal (lines : List Line) (plan : Lists) (number : ℕ) (group : Group) : Type 0 where
  pub counter : TotalCounter
  pub there : counter_for lines plan number ≡ Some counter
  pub has : HasPanelGroup counter group

-- the counter group with the balance of the total on a line of the chart
abbrev pub top_for : List Line → Lists → ℕ → Option Group
top_for lines plan number = option_map top_group (counter_for lines plan number)

-- A place of a counter group serves a position of the total on a line of the chart.
pub record ServesPosition (lines : List Line) (plan : Lists) (number position : ℕ) (group : Group) (place : ℕ) : Type 0 where
  pub counter : TotalCounter
  pub there : counter_for lines plan number ≡ Some counter
  pub at : IsPlaceOf counter position group place

-- the pilot of an amount
abbrev pub pilot_for : Lists → List ℕ → Option ℕ
pilot_for plan name = number_for (λ served. is_same_name served name) plan.parts.pilots plan.numbers.pilots

-- a column of a line of the chart
abbrev pub column_on : (number column : ℕ) → Position
column_on number column = record { line = number; column = column }

-- the comparing position of a column of a CONTROL line
abbrev pub comparing_for : Lists → (number column : ℕ) → Option ℕ
comparing_for plan number column =
    number_for (λ served. is_same_position served (column_on number column)) plan.parts.comparing plan.numbers.comparing

-- the indicate position of a column of an INDICATE item of a level
abbrev pub indicate_for : Lists → ControlLevel → (number column : ℕ) → Option ℕ
indicate_for plan level number column =
    number_for (λ served. is_same_position served (column_on number column)) (indicate_at plan.parts level) (numbers_of plan.numbers (Indicate level))

-- the split of the amount on a DETAIL line
abbrev pub split_for : Lists → ℕ → Option ℕ
split_for plan number = number_for (λ served. served == number) plan.parts.splits plan.numbers.splits

-- the storage unit of the text on a total line
abbrev pub unit_for : Lists → ℕ → Option ℕ
unit_for plan number = number_for (λ served. served == number) plan.parts.storage plan.numbers.storage

-- The contact of a pilot's position that is closed while the sign column of its amount tells negative: for X, while it has row 11, the
-- transferred one; for NX, while it has none, the normal one. That of a zero or a blank may tell so too, but its sign never shows.
abbrev pub negative_side : SignRule → (pilot position : ℕ) → Hub
negative_side (sign.X column) pilot position = PIT pilot position
negative_side (sign.NX column) pilot position = PIN pilot position

-- the contact of a pilot's position that is closed while the sign column of its amount doesn't tell negative
abbrev pub positive_side : SignRule → (pilot position : ℕ) → Hub
positive_side (sign.X column) pilot position = PIN pilot position
positive_side (sign.NX column) pilot position = PIT pilot position

-- the exit that tells of the cycle that prints a kind of body line
abbrev pub source_of : BodyLine → Hub
source_of body.Detail = CC
source_of (body.Total level) = PX (level_number level) 3

-- whether a line is a total of the amount of a name, at a level
abbrev pub is_total_at : List ℕ → ℕ → Statement → Bool
is_total_at wanted level (says.TotalAmount total) = (level_number total.level == level) && is_same_name total.name wanted
is_total_at wanted level other = false

-- the first line with a total of the amount of a name, at a level, if there is one
abbrev pub total_line : List Line → List ℕ → ℕ → Option Line
total_line lines name level = find (λ line. is_total_at name level line.statement) lines

-- A line of the chart, by its number, asks for a total of the amount of a name, at a level.
pub record HasTotal (lines : List Line) (name : List ℕ) (level number : ℕ) : Type 0 where
  pub line : Line
  pub listed : Contains lines line
  pub is_number : line.number ≡ number
  pub asked : TotalLine
  pub says_total : line.statement ≡ says.TotalAmount asked
  pub same_level : level_number asked.level ≡ level
  pub same_name : is_same_name asked.name name ≡ true

-- no total of the amount has a lower level
abbrev pub IsLowest : List Line → List ℕ → ℕ → Type 0
IsLowest lines name level = (other number : ℕ) → other < level → ¬ HasTotal lines name other number

-- The next higher total of the amount of a name above a level: on the line with this number, with no total of the amount between.
pub record IsNextHigher (lines : List Line) (name : List ℕ) (level number : ℕ) : Type 0 where
  pub higher : ℕ
  pub total : HasTotal lines name higher number
  pub above : level < higher
  pub next : (between other : ℕ) → level < between → between < higher → ¬ HasTotal lines name between other
