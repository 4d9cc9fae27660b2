-- A line of a deck as it stands, with a mark under one of its columns.
use Rattle.std.specs.Prelude.{ℕ, ◌-◌, ◌&&◌, ◌||◌, ◌==◌, Bool, false, Option, None, Some, List, [], ◌++◌, codes, map, nat_le, replicate, take, if◌then◌else◌}
use Rattle.std.specs.List.{flat_map}
use Rattle.chart_lines.specs.ChartsWords.Field.{sign_column}
use Rattle.chart_lines.specs.ChartsWords.Name.{name_text}
use Rattle.chart_lines.specs.declared.charts.statement.Field.{Field}
use Rattle.fault_lines.specs.ProgramIo.Printable.{printable}

-- the front of a line, as much of it as a card has columns
abbrev pub shown_line : List ℕ → List ℕ
shown_line line = map printable (take 80 line)

-- whether a column is a sign column, if there is one
abbrev pub is_sign_at : (column : ℕ) → Option ℕ → Bool
is_sign_at column None = false
is_sign_at column (Some sign) = sign == column

-- whether a field reads a column: one of its own, or that of its sign
abbrev pub reads_column : (column : ℕ) → Field → Bool
reads_column column field = nat_le field.first column && nat_le column field.last || is_sign_at column (sign_column field.kind)

-- the name of a field that reads a column
abbrev pub name_at : (column : ℕ) → Field → List ℕ
name_at column field = if reads_column column field then codes " " ++ name_text field.name else []

-- the mark under a column, and the names of the fields that read it
abbrev pub column_mark : (column : ℕ) → List Field → List ℕ
column_mark column fields = replicate (column - 1) 32 ++ codes "^" ++ flat_map (name_at column) fields ++ codes "\n"

-- a line with a mark
abbrev pub marked_line : (line : List ℕ) → (column : ℕ) → List Field → List ℕ
marked_line line column fields = shown_line line ++ codes "\n" ++ column_mark column fields
