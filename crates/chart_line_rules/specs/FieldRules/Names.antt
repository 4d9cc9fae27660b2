-- Rules on names: a name stands on one FIELD line, each name has one, and it stands for a field of the right kind.
use Rattle.std.specs.Prelude.{ℕ, Bool, false, List, Option, Some, None, is_some, is_none, not}
use Rattle.chart_lines.specs.declared.charts.statement.Field.{Field}
use Rattle.chart_lines.specs.declared.charts.statement.DetailOption.TheVariants as shown
use Rattle.chart_lines.specs.declared.charts.statement.Statement.{Statement}
use Rattle.chart_lines.specs.declared.charts.statement.Statement.TheVariants as says
use Rattle.chart_line_rules.specs.FieldRules.Fields.{first_named}
use Rattle.chart_lines.specs.ChartsWords.Field.{is_amount}

-- Name twice: a FIELD line describes a name that a line above it has described.
abbrev pub breaks_name_twice : List Field → Statement → Bool
breaks_name_twice earlier (says.Field field) = is_some (first_named earlier field.name)
breaks_name_twice earlier other = false

-- the name that a line uses, if it uses one
abbrev pub name_used : Statement → Option (List ℕ)
name_used (says.Control level name) = Some name
name_used (says.DetailField wheel name shown) = Some name
name_used (says.TotalText level wheel name) = Some name
name_used (says.TotalAmount total) = Some total.name
name_used other = None

-- whether a name has no FIELD line
abbrev pub is_unknown : List Field → Option (List ℕ) → Bool
is_unknown fields (Some name) = is_none (first_named fields name)
is_unknown fields None = false

-- Unknown name: a line uses a name that no FIELD line describes.
abbrev pub breaks_unknown_name : List Field → Statement → Bool
breaks_unknown_name fields line = is_unknown fields (name_used line)

-- whether a name stands for an amount
abbrev pub names_amount : Option Field → Bool
names_amount (Some field) = is_amount field.kind
names_amount None = false

-- whether a name stands for a text
abbrev pub names_text : Option Field → Bool
names_text (Some field) = not (is_amount field.kind)
names_text None = false

-- Wrong kind: a line takes an amount as a text (it controls a level, is indicated, or prints without digits on a total line),
-- or a text as an amount (it is to have a mark or to be added).
abbrev pub breaks_wrong_kind : List Field → Statement → Bool
breaks_wrong_kind fields (says.Control level name) = names_amount (first_named fields name)
breaks_wrong_kind fields (says.DetailField wheel name (shown.Indicated level)) = names_amount (first_named fields name)
breaks_wrong_kind fields (says.DetailField wheel name (shown.Marked mark)) = names_text (first_named fields name)
breaks_wrong_kind fields (says.TotalText level wheel name) = names_amount (first_named fields name)
breaks_wrong_kind fields (says.TotalAmount total) = names_text (first_named fields total.name)
breaks_wrong_kind fields other = false
