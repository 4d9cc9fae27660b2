-- Storage units and column splits: one for each line of a kind.
use Rattle.std.specs.Prelude.{ℕ, ◌≤◌, ◌&&◌, Bool, true, false, List, Option, Some, None, map, filter, nat_le, nat_lt, Contains}
use Rattle.chart_lines.specs.declared.charts.chart.Line.{Line}
use Rattle.chart_lines.specs.declared.charts.statement.Field.{Field}
use Rattle.chart_lines.specs.declared.charts.statement.Statement.{Statement}
use Rattle.chart_lines.specs.declared.charts.statement.Statement.TheVariants as says
use Rattle.chart_line_rules.specs.FieldRules.Fields.{field_named}
use Rattle.chart_lines.specs.ChartsWords.Field.{sign_column, columns_of}
use Rattle.chart_plans.specs.declared.wanted.unit.LineKind.{LineKind}
use Rattle.chart_plans.specs.declared.wanted.unit.LineKind.TheVariants.{TotalText, WideText, SplitAmount}

-- whether a line is a text on a total line
abbrev pub is_total_text : Statement → Bool
is_total_text (says.TotalText level wheel name) = true
is_total_text other = false

-- whether a field has more columns than a storage unit, which has 16
abbrev pub is_wide : Option Field → Bool
is_wide (Some field) = nat_lt 16 (columns_of field)
is_wide None = false

-- whether a line is a text on a total line of more columns than a storage unit has
abbrev pub is_wide_text : List Line → Statement → Bool
is_wide_text lines (says.TotalText level wheel name) = is_wide (field_named lines name)
is_wide_text lines other = false

-- whether a column, if there is one, is one of those of a field
abbrev pub is_inside : Field → Option ℕ → Bool
is_inside field (Some column) = nat_le field.first column && nat_le column field.last
is_inside field None = false

-- whether a name stands for an amount whose sign column is one of its own columns
abbrev pub has_inside_sign : Option Field → Bool
has_inside_sign (Some field) = is_inside field (sign_column field.kind)
has_inside_sign None = false

-- whether a line is an amount on a DETAIL line whose sign column is one of its own columns
abbrev pub is_split_amount : List Line → Statement → Bool
is_split_amount lines (says.DetailField wheel name option) = has_inside_sign (field_named lines name)
is_split_amount lines other = false

-- whether a line is of a kind
unfoldable pub is_of_kind : List Line → LineKind → Statement → Bool
is_of_kind lines TotalText statement = is_total_text statement
is_of_kind lines WideText statement = is_wide_text lines statement
is_of_kind lines SplitAmount statement = is_split_amount lines statement

-- the numbers of the lines of a kind, in order
abbrev pub lines_of_kind : List Line → LineKind → List ℕ
lines_of_kind lines kind = map (λ line. line.number) (filter (λ line. is_of_kind lines kind line.statement) lines)

-- the storage units of a chart: the lines of its total texts
abbrev pub storage_of : List Line → List ℕ
storage_of lines = lines_of_kind lines TotalText

-- the lines of the total texts that are too wide for a storage unit
abbrev pub wide_texts_of : List Line → List ℕ
wide_texts_of lines = lines_of_kind lines WideText

-- a line is the lowest of some
pub record IsLowestOf (lines : List ℕ) (line : ℕ) : Type 0 where
  pub among : Contains lines line
  pub lowest : (other : ℕ) → Contains lines other → line ≤ other

-- the column splits of a chart: the lines of its DETAIL amounts whose sign column is one of their own columns
abbrev pub splits_of : List Line → List ℕ
splits_of lines = lines_of_kind lines SplitAmount
