-- Levels: a control field has one of 1 to 3, and a total line one of these or the final one, 4, of the whole deck.
use Rattle.std.specs.Prelude.{ℕ, ◌==◌, Option, Some, None, if◌then◌else◌}
use Rattle.chart_lines.specs.declared.charts.level.Level.{Level}
use Rattle.chart_lines.specs.declared.charts.level.Level.TheVariants as level
use Rattle.chart_lines.specs.declared.charts.level.ControlLevel.{ControlLevel}
use Rattle.chart_lines.specs.declared.charts.level.ControlLevel.TheVariants as control

-- the number of a level
abbrev pub level_number : Level → ℕ
level_number level.Minor = 1
level_number level.Intermediate = 2
level_number level.Major = 3
level_number level.Final = 4

-- the level with a number, if it is 1 to 4
abbrev pub level_with : ℕ → Option Level
level_with number =
    if number == 1 then Some level.Minor
    else (if number == 2 then Some level.Intermediate
    else (if number == 3 then Some level.Major
    else (if number == 4 then Some level.Final else None)))

-- the number of a control level
abbrev pub control_number : ControlLevel → ℕ
control_number control.Minor = 1
control_number control.Intermediate = 2
control_number control.Major = 3

-- the control level with a number, if it is 1 to 3
abbrev pub control_with : ℕ → Option ControlLevel
control_with number =
    if number == 1 then Some control.Minor
    else (if number == 2 then Some control.Intermediate
    else (if number == 3 then Some control.Major else None))

-- the control level that a level is: each is one but the final
abbrev pub control_level : Level → Option ControlLevel
control_level level.Minor = Some control.Minor
control_level level.Intermediate = Some control.Intermediate
control_level level.Major = Some control.Major
control_level level.Final = None
