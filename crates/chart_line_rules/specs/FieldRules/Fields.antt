-- The fields of a chart, by their names.
use Rattle.std.specs.Prelude.{ℕ, List, Option, Some, None, find, position, filter_map}
use Rattle.chart_lines.specs.ChartsWords.Name.{is_same_name}
use Rattle.chart_lines.specs.declared.charts.chart.Line.{Line}
use Rattle.chart_lines.specs.declared.charts.statement.Field.{Field}
use Rattle.chart_lines.specs.declared.charts.statement.Statement.{Statement}
use Rattle.chart_lines.specs.declared.charts.statement.Statement.TheVariants as says

-- the field that a line describes, if it is a FIELD line
abbrev pub field_of : Statement → Option Field
field_of (says.Field field) = Some field
field_of other = None

-- the fields of a chart, in the order of their lines
abbrev pub fields_of : List Line → List Field
fields_of lines = filter_map (λ line. field_of line.statement) lines

-- the first field with a name
abbrev pub first_named : List Field → List ℕ → Option Field
first_named fields name = find (λ field. is_same_name field.name name) fields

-- where the first field with a name stands among the fields, counted from 0
abbrev pub first_place : List Field → List ℕ → Option ℕ
first_place fields name = position (λ field. is_same_name field.name name) fields

-- what a name stands for: the first field with that name
abbrev pub field_named : List Line → List ℕ → Option Field
field_named lines name = first_named (fields_of lines) name
