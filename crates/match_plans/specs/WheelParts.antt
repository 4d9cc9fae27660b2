-- The print wheels that name column splits and indicate positions: that of the sign digit which passes through a split, and those of the
-- columns of an indicated text.
use Rattle.std.specs.Prelude.{◌≡◌, ℕ, ◌+◌, ◌-◌, ◌≤◌, List, [], Option, Some, None, filter_map, flat_map, if◌then◌else◌, length, slice_get}
use Rattle.std.specs.List.{range_with_len}
use Rattle.chart_lines.specs.ChartsWords.Field.{columns_of, decimals_of, sign_column}
use Rattle.chart_lines.specs.ChartsWords.Levels.{control_number}
use Rattle.chart_lines.specs.declared.charts.chart.Line.{Line}
use Rattle.chart_lines.specs.declared.charts.level.ControlLevel.{ControlLevel}
use Rattle.chart_lines.specs.declared.charts.statement.Field.{Field}
use Rattle.chart_lines.specs.declared.charts.statement.Statement.{Statement}
use Rattle.chart_lines.specs.declared.charts.statement.Statement.TheVariants as says
use Rattle.chart_line_rules.specs.FieldRules.Fields.{field_named}
use Rattle.hubs.specs.declared.hub.Hub.{Hub}
use Rattle.hubs.specs.declared.hub.Hub.TheVariants.{CSD, IX, W}
use Rattle.match_plans.specs.declared.wheel_parts.WheelPart.{WheelPart}
use Rattle.match_plans.specs.declared.wheel_parts.WheelPart.TheVariants as by
use Rattle.hubs.specs.SetupsWords.Wiring.{HasWire, Wiring}
use Rattle.chart_plans.specs.WantedWords.Positions.{indicated_field}
use Rattle.chart_plans.specs.WantedWords.Units.{is_inside}
use Rattle.wiring_table.specs.Figures.{digit_wheel}

-- the exit of a part of a number
abbrev pub exit_of : WheelPart → ℕ → Hub
exit_of by.Split number = CSD number
exit_of (by.Indicated level) number = IX (control_number level) number

-- of so many parts one of a number leads to a wheel, and no other
pub record LeadsTo (setup : Wiring) (part : WheelPart) (last wheel number : ℕ) : Type 0 where
  pub from : 1 ≤ number
  pub to : number ≤ last
  pub leads : HasWire setup (exit_of part number) (W wheel)
  pub only : (other : ℕ) → 1 ≤ other → other ≤ last → HasWire setup (exit_of part other) (W wheel) → other ≡ number

-- to each wheel the part of the number at its place leads, and no other
pub record AreLed (setup : Wiring) (part : WheelPart) (last : ℕ) (wheels numbers : List ℕ) : Type 0 where
  pub many : length numbers ≡ length wheels
  pub each :
      (place wheel number : ℕ) → slice_get wheels place ≡ Some wheel → slice_get numbers place ≡ Some number
      → LeadsTo setup part last wheel number

-- the wheel of the digit in a column of an amount from a wheel on, if the column is one of its own
abbrev pub wheel_at : ℕ → Field → Option ℕ → Option ℕ
wheel_at wheel field (Some column) =
    if is_inside field (Some column)
    then Some (digit_wheel wheel (columns_of field) (decimals_of field.kind) (field.last + 1 - column))
    else None
wheel_at wheel field None = None

-- the wheel of its sign digit, if its sign column is one of its own
abbrev pub sign_wheel : ℕ → Option Field → Option ℕ
sign_wheel wheel (Some field) = wheel_at wheel field (sign_column field.kind)
sign_wheel wheel None = None

-- the wheel of the sign digit of the amount that a line puts on the line of a card, if its sign column is one of its own
abbrev pub split_wheel : List Line → Statement → Option ℕ
split_wheel lines (says.DetailField wheel name shown) = sign_wheel wheel (field_named lines name)
split_wheel lines other = None

abbrev pub split_wheels : List Line → List ℕ
split_wheels lines = filter_map (λ (line : Line). split_wheel lines line.statement) lines

-- the wheels of the columns of a field from a wheel on
abbrev pub wheels_from : ℕ → Option Field → List ℕ
wheels_from wheel (Some field) = range_with_len wheel (columns_of field)
wheels_from wheel None = []

-- the wheel from which on a line puts a field on the line of a card
abbrev pub detail_wheel : Statement → ℕ
detail_wheel (says.DetailField wheel name shown) = wheel
detail_wheel other = 0

-- the wheels of the columns of a text that a line indicates at a level
abbrev pub wheels_on : List Line → ControlLevel → Statement → List ℕ
wheels_on lines level statement = wheels_from (detail_wheel statement) (indicated_field lines level statement)

abbrev pub indicated_wheels : List Line → ControlLevel → List ℕ
indicated_wheels lines level = flat_map (λ (line : Line). wheels_on lines level line.statement) lines
