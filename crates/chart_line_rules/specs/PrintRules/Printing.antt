-- A rule on what is printed: each kind of body line that a chart speaks of has items, and GROUP prints totals alone.
use Rattle.std.specs.Prelude.{Bool, true, false, List, Option, Some, None, not}
use Rattle.std.specs.List.{list_any}
use Rattle.chart_lines.specs.declared.charts.chart.Line.{Line}
use Rattle.chart_lines.specs.declared.charts.statement.BodyLine.{BodyLine}
use Rattle.chart_lines.specs.declared.charts.statement.BodyLine.TheVariants as body
use Rattle.chart_lines.specs.declared.charts.statement.Printing.TheVariants as print
use Rattle.chart_lines.specs.declared.charts.statement.Statement.{Statement}
use Rattle.chart_lines.specs.declared.charts.statement.Statement.TheVariants as says
use Rattle.chart_line_rules.specs.declared.print_rules.items.PrintedLine.{PrintedLine}
use Rattle.chart_line_rules.specs.declared.print_rules.items.PrintedLine.TheVariants.{Body}
use Rattle.chart_line_rules.specs.PrintRules.Items.{printed_line_of, is_same_line}

-- whether a printed line, if there is one, is a kind of body line
abbrev pub is_kind : BodyLine → Option PrintedLine → Bool
is_kind kind (Some line) = is_same_line line (Body kind)
is_kind kind None = false

-- whether a printed line, if there is one, is a total line
abbrev pub is_total : Option PrintedLine → Bool
is_total (Some (Body (body.Total level))) = true
is_total other = false

-- whether a chart has an item of a kind of body line
abbrev pub has_item_of : List Line → BodyLine → Bool
has_item_of lines kind = list_any (λ line. is_kind kind (printed_line_of line.statement)) lines

-- whether a chart has an item of a total line
abbrev pub has_total_item : List Line → Bool
has_total_item lines = list_any (λ line. is_total (printed_line_of line.statement)) lines

-- whether a line is a PRINT line
abbrev pub is_print : Statement → Bool
is_print (says.Print printing) = true
is_print other = false

-- whether a line is PRINT GROUP
abbrev pub is_print_group : Statement → Bool
is_print_group (says.Print print.Group) = true
is_print_group other = false

-- whether a chart prints totals alone
abbrev pub prints_group : List Line → Bool
prints_group lines = list_any (λ line. is_print_group line.statement) lines

-- Print kind: PRINT asks for a kind of line on which nothing is put; a chart that prints totals alone puts something on the line
-- of a card; SPACE or AFTER speaks of a line on which nothing stands.
abbrev pub breaks_print_kind : List Line → Statement → Bool
breaks_print_kind lines (says.Print print.Detail) = not (has_item_of lines body.Detail)
breaks_print_kind lines (says.Print print.Group) = not (has_total_item lines)
breaks_print_kind lines (says.DetailLiteral wheel literal) = prints_group lines
breaks_print_kind lines (says.DetailField wheel name shown) = prints_group lines
breaks_print_kind lines (says.Space kind spacing) = not (has_item_of lines kind)
breaks_print_kind lines (says.After kind action) = not (has_item_of lines kind)
breaks_print_kind lines other = false

-- whether a chart has a PRINT line
abbrev pub has_print : List Line → Bool
has_print lines = list_any (λ line. is_print line.statement) lines

-- whether a chart has no PRINT line
abbrev pub lacks_print : List Line → Bool
lacks_print lines = not (has_print lines)
