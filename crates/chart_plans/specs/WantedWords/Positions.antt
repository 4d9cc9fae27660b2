-- Comparing and indicate positions: one for each column of a field, from left to right, by the lines that ask for them.
use Rattle.std.specs.Prelude.{ℕ, Bool, ◌&&◌, List, [], Option, Some, None, map, flat_map, ◌==◌, if◌then◌else◌}
use Rattle.std.specs.List.{range_with_len}
use Rattle.chart_lines.specs.ChartsWords.Levels.{control_number}
use Rattle.chart_lines.specs.declared.charts.chart.Line.{Line}
use Rattle.chart_lines.specs.declared.charts.level.ControlLevel.{ControlLevel}
use Rattle.chart_lines.specs.declared.charts.statement.DetailOption.TheVariants as shown
use Rattle.chart_lines.specs.declared.charts.statement.Field.{Field}
use Rattle.chart_lines.specs.declared.charts.statement.Statement.{Statement}
use Rattle.chart_lines.specs.declared.charts.statement.Statement.TheVariants as says
use Rattle.chart_line_rules.specs.FieldRules.Fields.{field_named}
use Rattle.chart_lines.specs.ChartsWords.Field.{columns_of}
use Rattle.chart_plans.specs.declared.wanted.position.Position.{Position}
use Rattle.chart_plans.specs.declared.wanted.position.ColumnUse.{ColumnUse}
use Rattle.chart_plans.specs.declared.wanted.position.ColumnUse.TheVariants.{Comparing, Indicate}

-- whether two positions serve the same column of the same line
abbrev pub is_same_position : Position → Position → Bool
is_same_position one other = (one.line == other.line) && (one.column == other.column)

-- the positions for the columns of a field that a line names, from left to right
unfoldable pub positions_for : ℕ → Option Field → List Position
positions_for number (Some field) =
    map (λ column. record { line = number; column = column }) (range_with_len field.first (columns_of field))
positions_for number None = []

-- the field that a CONTROL line compares on consecutive cards
abbrev pub compared_field : List Line → Statement → Option Field
compared_field lines (says.Control level name) = field_named lines name
compared_field lines other = None

-- the field that an INDICATE item of a level shows on the first card of each group
abbrev pub indicated_field : List Line → ControlLevel → Statement → Option Field
indicated_field lines level (says.DetailField wheel name (shown.Indicated of_level)) =
    if control_number of_level == control_number level then field_named lines name else None
indicated_field lines level other = None

-- the field whose columns a line puts to a use
unfoldable pub field_used : List Line → ColumnUse → Statement → Option Field
field_used lines Comparing statement = compared_field lines statement
field_used lines (Indicate level) statement = indicated_field lines level statement

-- the positions of a use, in the order of the lines that ask for them
abbrev pub positions_of : List Line → ColumnUse → List Position
positions_of lines columns = flat_map (λ line. positions_for line.number (field_used lines columns line.statement)) lines

-- The comparing positions of a chart: the columns of each CONTROL line's field. A field that controls two levels has
-- them twice.
abbrev pub comparing_of : List Line → List Position
comparing_of lines = positions_of lines Comparing

-- the indicate positions of a level: the columns of each INDICATE item of that level
abbrev pub indicate_of : ControlLevel → List Line → List Position
indicate_of level lines = positions_of lines (Indicate level)
