-- A rule on marks and sign columns: an amount item has a mark exactly where the amount has a sign column.
use Rattle.std.specs.Prelude.{Bool, true, false, List, Option, Some, None}
use Rattle.chart_lines.specs.declared.charts.statement.Field.{Field}
use Rattle.chart_lines.specs.declared.charts.statement.FieldKind.{FieldKind}
use Rattle.chart_lines.specs.declared.charts.statement.FieldKind.TheVariants as holds
use Rattle.chart_lines.specs.declared.charts.statement.Mark.{Mark}
use Rattle.chart_lines.specs.declared.charts.statement.Statement.{Statement}
use Rattle.chart_lines.specs.declared.charts.statement.Statement.TheVariants as says
use Rattle.chart_line_rules.specs.FieldRules.Fields.{first_named}
use Rattle.chart_line_rules.specs.PrintRules.Items.{mark_shown}

-- whether an amount has a mark without a sign column, or the reverse; a text has neither
abbrev pub is_mismatched_kind : FieldKind → Option Mark → Bool
is_mismatched_kind (holds.Amount decimals None) (Some mark) = true
is_mismatched_kind (holds.Amount decimals (Some rule)) None = true
is_mismatched_kind kind mark = false

-- whether a field, if there is one, is an amount that has a mark without a sign column, or the reverse
abbrev pub is_mismatched : Option Field → Option Mark → Bool
is_mismatched (Some field) mark = is_mismatched_kind field.kind mark
is_mismatched None mark = false

-- Mark mismatch: a line puts an amount on the report whose mark and sign column don't go together.
abbrev pub breaks_mark_mismatch : List Field → Statement → Bool
breaks_mark_mismatch fields (says.DetailField wheel name shown) =
    is_mismatched (first_named fields name) (mark_shown shown)
breaks_mark_mismatch fields (says.TotalAmount total) =
    is_mismatched (first_named fields total.name) total.mark
breaks_mark_mismatch fields other = false
