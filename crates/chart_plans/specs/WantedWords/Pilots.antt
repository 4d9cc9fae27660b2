-- Pilots: one for each amount with a sign rule that stands on a DETAIL or TOTAL line, on however many lines it stands.
use Rattle.std.specs.Prelude.{ℕ, ◌&&◌, Bool, false, List, map, filter, is_some}
use Rattle.std.specs.List.{list_any}
use Rattle.chart_lines.specs.declared.charts.chart.Line.{Line}
use Rattle.chart_lines.specs.declared.charts.statement.Field.{Field}
use Rattle.chart_lines.specs.declared.charts.statement.Statement.{Statement}
use Rattle.chart_lines.specs.declared.charts.statement.Statement.TheVariants as says
use Rattle.chart_line_rules.specs.FieldRules.Fields.{fields_of}
use Rattle.chart_lines.specs.ChartsWords.Field.{sign_column}
use Rattle.chart_lines.specs.ChartsWords.Name.{is_same_name}

-- whether a line puts the amount of a name on a DETAIL or TOTAL line
abbrev pub shows : List ℕ → Statement → Bool
shows wanted (says.DetailField wheel name option) = is_same_name name wanted
shows wanted (says.TotalAmount total) = is_same_name total.name wanted
shows wanted other = false

-- whether a name stands on a DETAIL or TOTAL line of a chart
abbrev pub prints_name : List Line → List ℕ → Bool
prints_name lines name = list_any (λ line. shows name line.statement) lines

-- whether a field wants a pilot: it has a sign rule, and it stands on a DETAIL or TOTAL line
unfoldable pub wants_pilot : List Line → Field → Bool
wants_pilot lines field = is_some (sign_column field.kind) && prints_name lines field.name

-- The pilots of a chart: the names of the amounts that want one, in the order of their FIELD lines.
abbrev pub pilots_of : List Line → List (List ℕ)
pilots_of lines = map (λ field. field.name) (filter (wants_pilot lines) (fields_of lines))
