-- Rules on control levels: a total or an indicated field has its level controlled, and a text on a total line controls it.
use Rattle.std.specs.Prelude.{ℕ, Bool, false, List, Option, Some, None, not, ◌&&◌, ◌==◌, nat_le}
use Rattle.std.specs.List.{list_any}
use Rattle.chart_lines.specs.ChartsWords.Levels.{control_level, control_number, level_number}
use Rattle.chart_lines.specs.declared.charts.chart.Line.{Line}
use Rattle.chart_lines.specs.declared.charts.level.ControlLevel.{ControlLevel}
use Rattle.chart_lines.specs.declared.charts.level.Level.{Level}
use Rattle.chart_lines.specs.declared.charts.statement.DetailOption.TheVariants as shown
use Rattle.chart_lines.specs.declared.charts.statement.Statement.{Statement}
use Rattle.chart_lines.specs.declared.charts.statement.Statement.TheVariants as says
use Rattle.chart_lines.specs.ChartsWords.Name.{is_same_name}

-- the level that a line needs to be controlled, if it needs one; level 4 is the whole deck, and needs none
abbrev pub level_needed : Statement → Option ControlLevel
level_needed (says.DetailField wheel name (shown.Indicated level)) = Some level
level_needed (says.TotalLiteral level wheel literal) = control_level level
level_needed (says.TotalText level wheel name) = control_level level
level_needed (says.TotalAmount total) = control_level total.level
level_needed other = None

-- whether a line is CONTROL of a level
abbrev pub controls : ControlLevel → Statement → Bool
controls wanted (says.Control level name) = control_number level == control_number wanted
controls wanted other = false

-- whether a chart has a CONTROL line of a level
abbrev pub is_controlled : List Line → ControlLevel → Bool
is_controlled lines level = list_any (λ line. controls level line.statement) lines

-- whether a level, if one is needed, has no CONTROL line
abbrev pub is_uncontrolled : List Line → Option ControlLevel → Bool
is_uncontrolled lines (Some level) = not (is_controlled lines level)
is_uncontrolled lines None = false

-- No control: a total or an indicated field belongs to a level that no CONTROL line starts.
abbrev pub breaks_no_control : List Line → Statement → Bool
breaks_no_control lines line = is_uncontrolled lines (level_needed line)

-- whether a line makes a name a control field of a level or a higher one
abbrev pub controls_by : Level → List ℕ → Statement → Bool
controls_by lowest wanted (says.Control level name) = nat_le (level_number lowest) (control_number level) && is_same_name name wanted
controls_by lowest wanted other = false

-- whether a chart makes a name a control field of a level or a higher one
abbrev pub is_controlled_by : List Line → Level → List ℕ → Bool
is_controlled_by lines lowest name = list_any (λ line. controls_by lowest name line.statement) lines

-- Total text not control: a total line is to print a text that needn't be the same on all cards of its group.
abbrev pub breaks_total_text_not_control : List Line → Statement → Bool
breaks_total_text_not_control lines (says.TotalText level wheel name) = not (is_controlled_by lines level name)
breaks_total_text_not_control lines other = false
