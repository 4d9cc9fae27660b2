-- The control fields of a chart.
use Rattle.std.specs.Prelude.{◌≡◌, ℕ, ◌==◌, List, Option, None, if◌then◌else◌}
use Rattle.std.specs.List.{filter_map}
use Rattle.chart_lines.specs.ChartsWords.Levels.{control_number}
use Rattle.chart_lines.specs.declared.charts.chart.Line.{Line}
use Rattle.chart_lines.specs.declared.charts.level.ControlLevel.{ControlLevel}
use Rattle.chart_lines.specs.declared.charts.level.ControlLevel.TheVariants as level
use Rattle.chart_lines.specs.declared.charts.statement.Field.{Field}
use Rattle.chart_lines.specs.declared.charts.statement.Statement.{Statement}
use Rattle.chart_lines.specs.declared.charts.statement.Statement.TheVariants as says
use Rattle.chart_line_rules.specs.FieldRules.Fields.{field_named}
use Rattle.chart_rules.specs.declared.controls.Controls.{Controls}

-- the control field that a line of a chart names for a level, if it does
abbrev pub control_on : List Line → ℕ → Statement → Option Field
control_on lines level (says.Control its_level name) =
    if control_number its_level == level then field_named lines name else None
control_on lines level other = None

-- the control fields of a level that some lines of a chart name, in their order
abbrev pub controls_among : (lines : List Line) → ℕ → (some : List Line) → List Field
controls_among lines level some = filter_map (λ line. control_on lines level line.statement) some

-- the control fields of a level, in the order of the lines
abbrev pub controls_of : List Line → ℕ → List Field
controls_of lines level = controls_among lines level lines

-- those that are kept for a level
abbrev pub kept_for : Controls → ControlLevel → List Field
kept_for controls level.Minor = controls.minor.items
kept_for controls level.Intermediate = controls.intermediate.items
kept_for controls level.Major = controls.major.items

-- What is kept for each level are its control fields.
abbrev pub AreControlsOf : List Line → Controls → Type 0
AreControlsOf lines controls = (level : ControlLevel) → kept_for controls level ≡ controls_of lines (control_number level)
