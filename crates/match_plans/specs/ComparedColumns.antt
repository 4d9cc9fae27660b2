-- The columns that a chart compares, each with its level. Where a column is compared twice for a level, the wires of a panel don't tell the
-- two positions apart: a plan in which they change places is as good.
use Rattle.std.specs.Prelude.{ℕ, List, [], Option, Some, None, flat_map, map}
use Rattle.std.specs.List.{range_with_len}
use Rattle.chart_lines.specs.ChartsWords.Field.{columns_of}
use Rattle.chart_lines.specs.ChartsWords.Levels.{control_number}
use Rattle.chart_lines.specs.declared.charts.chart.Line.{Line}
use Rattle.chart_lines.specs.declared.charts.statement.Field.{Field}
use Rattle.chart_lines.specs.declared.charts.statement.Statement.{Statement}
use Rattle.chart_lines.specs.declared.charts.statement.Statement.TheVariants as says
use Rattle.hubs.specs.declared.hub.Hub.TheVariants.{CA, CX, FR, ST}
use Rattle.match_plans.specs.declared.compared.ComparedColumn.{ComparedColumn}
use Rattle.hubs.specs.SetupsWords.Wiring.{HasWire, Wiring}
use Rattle.chart_plans.specs.WantedWords.Positions.{compared_field}

-- the number of the level of a control field
abbrev pub level_of : Statement → ℕ
level_of (says.Control level name) = control_number level
level_of other = 0

-- the columns of a control field with the number of its level
abbrev pub columns_for : ℕ → Option Field → List ComparedColumn
columns_for level (Some field) = map (λ column. record { column = column; level = level }) (range_with_len field.first (columns_of field))
columns_for level None = []

abbrev pub columns_on : List Line → Statement → List ComparedColumn
columns_on lines statement = columns_for (level_of statement) (compared_field lines statement)

-- the columns that a chart compares, in the order of its CONTROL lines
abbrev pub compared_columns : List Line → List ComparedColumn
compared_columns lines = flat_map (λ (line : Line). columns_on lines line.statement) lines

-- a position compares a column for a level
pub record IsCompared (setup : Wiring) (column level position : ℕ) : Type 0 where
  pub leads : HasWire setup (FR column) (CA position)
  pub calls : HasWire setup (CX position) (ST level)
