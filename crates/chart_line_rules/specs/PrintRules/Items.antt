-- The items of a chart: what its lines put on the lines of the report, and on which print wheels.
use Rattle.std.specs.Prelude.{ℕ, ◌+◌, Bool, false, List, Option, Some, None, option_map, length, nat_lt, ◌==◌}
use Rattle.std.specs.Prelude.{if◌then◌else◌}
use Rattle.chart_lines.specs.ChartsWords.Headings.{heading_number}
use Rattle.chart_lines.specs.declared.charts.statement.BodyLine.TheVariants as body
use Rattle.chart_lines.specs.declared.charts.statement.DetailOption.{DetailOption}
use Rattle.chart_lines.specs.declared.charts.statement.DetailOption.TheVariants as shown
use Rattle.chart_lines.specs.declared.charts.statement.Field.{Field}
use Rattle.chart_lines.specs.declared.charts.statement.FieldKind.{FieldKind}
use Rattle.chart_lines.specs.declared.charts.statement.FieldKind.TheVariants as holds
use Rattle.chart_lines.specs.declared.charts.statement.Mark.{Mark}
use Rattle.chart_lines.specs.declared.charts.statement.Mark.TheVariants as mark
use Rattle.chart_lines.specs.declared.charts.statement.Statement.{Statement}
use Rattle.chart_lines.specs.declared.charts.statement.Statement.TheVariants as says
use Rattle.chart_lines.specs.declared.charts.statement.TotalLine.{TotalLine}
use Rattle.chart_line_rules.specs.declared.print_rules.items.Figure.{Figure}
use Rattle.chart_line_rules.specs.declared.print_rules.items.Item.{Item}
use Rattle.chart_line_rules.specs.declared.print_rules.items.PrintedLine.{PrintedLine}
use Rattle.chart_line_rules.specs.declared.print_rules.items.PrintedLine.TheVariants.{Heading, Body}
use Rattle.chart_line_rules.specs.FieldRules.Fields.{first_named}
use Rattle.chart_lines.specs.ChartsWords.Field.{columns_of, decimals_of}
use Rattle.chart_line_rules.specs.FieldRules.Repeats.{is_same_body}

-- the line of the report that a line of the chart puts an item on, if it is an item
abbrev pub printed_line_of : Statement → Option PrintedLine
printed_line_of (says.Head line wheel literal) = Some (Heading line)
printed_line_of (says.DetailLiteral wheel literal) = Some (Body body.Detail)
printed_line_of (says.DetailField wheel name shown) = Some (Body body.Detail)
printed_line_of (says.TotalLiteral level wheel literal) = Some (Body (body.Total level))
printed_line_of (says.TotalText level wheel name) = Some (Body (body.Total level))
printed_line_of (says.TotalAmount total) = Some (Body (body.Total total.level))
printed_line_of other = None

-- whether two lines of the report are the same
abbrev pub is_same_line : PrintedLine → PrintedLine → Bool
is_same_line (Heading one) (Heading other) = heading_number one == heading_number other
is_same_line (Body one) (Body other) = is_same_body one other
is_same_line one other = false

-- how many wheels a mark takes: two for CR, one for a minus sign
abbrev pub mark_width : Option Mark → ℕ
mark_width None = 0
mark_width (Some mark.Credit) = 2
mark_width (Some mark.Minus) = 1

-- how many wheels an amount takes: its digits, one for the point if it has decimals, and its mark
abbrev pub figure_width : Figure → ℕ
figure_width figure = figure.digits + (if nat_lt 0 figure.decimals then 1 else 0) + mark_width figure.mark

-- an item of so many characters, from a wheel on
abbrev pub text_item : PrintedLine → ℕ → ℕ → Item
text_item line wheel characters = record { line = line; first = wheel; end = wheel + characters; figure = None }

-- an amount, from a wheel on
abbrev pub figure_item : PrintedLine → ℕ → Figure → Item
figure_item line wheel figure =
    record { line = line; first = wheel; end = wheel + figure_width figure; figure = Some figure }

-- the mark that an option of a field on the line of a card gives it
abbrev pub mark_shown : DetailOption → Option Mark
mark_shown (shown.Marked mark) = Some mark
mark_shown other = None

-- a field on the line of a card: its columns, as characters or as the digits of an amount
abbrev pub detail_item : ℕ → DetailOption → ℕ → FieldKind → Item
detail_item wheel shown columns holds.Text = text_item (Body body.Detail) wheel columns
detail_item wheel shown columns (holds.Amount decimals rule) =
    figure_item (Body body.Detail) wheel (record { digits = columns; decimals = decimals; mark = mark_shown shown })

-- a total of an amount: its own digits, and the decimals of the amount
abbrev pub total_item : TotalLine → FieldKind → Item
total_item total kind =
    figure_item (Body (body.Total total.level)) total.wheel
    (record { digits = total.digits; decimals = decimals_of kind; mark = total.mark })

-- the item that a line of the chart is, if it is one: a literal has its characters, a text its columns, a total its
-- digits
abbrev pub item_of : List Field → Statement → Option Item
item_of fields (says.Head line wheel literal) = Some (text_item (Heading line) wheel (length literal))
item_of fields (says.DetailLiteral wheel literal) = Some (text_item (Body body.Detail) wheel (length literal))
item_of fields (says.DetailField wheel name shown) =
    option_map (λ field. detail_item wheel shown (columns_of field) field.kind) (first_named fields name)
item_of fields (says.TotalLiteral level wheel literal) =
    Some (text_item (Body (body.Total level)) wheel (length literal))
item_of fields (says.TotalText level wheel name) =
    option_map (λ field. text_item (Body (body.Total level)) wheel (columns_of field)) (first_named fields name)
item_of fields (says.TotalAmount total) =
    option_map (λ field. total_item total field.kind) (first_named fields total.name)
item_of fields other = None
