-- A helper of the code: the item that a line is, by the field that its name stands for.
use Rattle.std.specs.Prelude.{ℕ, List, Option, Some, None, length}
use Rattle.chart_lines.specs.ChartsWords.Field.{columns_of}
use Rattle.chart_lines.specs.declared.charts.statement.BodyLine.TheVariants as body
use Rattle.chart_lines.specs.declared.charts.statement.Field.{Field}
use Rattle.chart_lines.specs.declared.charts.statement.Statement.{Statement}
use Rattle.chart_lines.specs.declared.charts.statement.Statement.TheVariants as says
use Rattle.chart_line_rules.specs.PrintRules.Items.{text_item, detail_item, total_item}
use Rattle.chart_line_rules.specs.declared.print_rules.items.Item.{Item}
use Rattle.chart_line_rules.specs.declared.print_rules.items.PrintedLine.TheVariants.{Heading, Body}
use Rattle.std.specs.Option.{option_and_then}

-- the name of the field that a line puts on the report, if it puts one there
abbrev pub name_printed : Statement → Option (List ℕ)
name_printed (says.DetailField wheel name shown) = Some name
name_printed (says.TotalText level wheel name) = Some name
name_printed (says.TotalAmount total) = Some total.name
name_printed other = None

-- what a line puts on the report of a field, if it puts one there
abbrev pub field_item : Field → Statement → Option Item
field_item field (says.DetailField wheel name shown) = Some (detail_item wheel shown (columns_of field) field.kind)
field_item field (says.TotalText level wheel name) = Some (text_item (Body (body.Total level)) wheel (columns_of field))
field_item field (says.TotalAmount total) = Some (total_item total field.kind)
field_item field other = None

-- the item that a line is, if it is one, where its name stands for a field, or for none
abbrev pub item_with : Option Field → Statement → Option Item
item_with field (says.Head line wheel literal) = Some (text_item (Heading line) wheel (length literal))
item_with field (says.DetailLiteral wheel literal) = Some (text_item (Body body.Detail) wheel (length literal))
item_with field (says.TotalLiteral level wheel literal) =
    Some (text_item (Body (body.Total level)) wheel (length literal))
item_with field other = option_and_then (λ each. field_item each other) field
