-- The rows of the wiring table by what a line of a chart says, and the sentence of each row.
use Rattle.std.specs.Prelude.{ℕ, List, Option, Some, None}
use Rattle.chart_line_rules.specs.FieldRules.Fields.{field_named}
use Rattle.chart_lines.specs.declared.charts.chart.Line.{Line}
use Rattle.chart_lines.specs.declared.charts.spacing.Spacing.TheVariants as spacing
use Rattle.chart_lines.specs.declared.charts.statement.After.TheVariants as action
use Rattle.chart_lines.specs.declared.charts.statement.DetailOption.{DetailOption}
use Rattle.chart_lines.specs.declared.charts.statement.DetailOption.TheVariants as shown
use Rattle.chart_lines.specs.declared.charts.statement.Field.{Field}
use Rattle.chart_lines.specs.declared.charts.statement.FieldKind.{FieldKind}
use Rattle.chart_lines.specs.declared.charts.statement.FieldKind.TheVariants as holds
use Rattle.chart_lines.specs.declared.charts.statement.Printing.TheVariants as prints
use Rattle.chart_lines.specs.declared.charts.statement.Statement.{Statement}
use Rattle.chart_lines.specs.declared.charts.statement.Statement.TheVariants as says
use Rattle.wiring_legend.specs.declared.row.LegendRow.{LegendRow}
use Rattle.wiring_legend.specs.declared.row.LegendRow.TheVariants as row
use Rattle.wiring_legend.specs.declared.wording.TheConstants as wording

-- what the field of a name holds; characters, where no field has the name
abbrev pub kind_named : Option Field → FieldKind
kind_named None = holds.Text
kind_named (Some field) = field.kind

-- the row of a field: of a signed amount a column is picked up
abbrev pub field_row : FieldKind → LegendRow
field_row (holds.Amount decimals (Some rule)) = row.SignedField
field_row other = row.Field

-- the row of a field on the line of a card
abbrev pub detail_row : FieldKind → DetailOption → LegendRow
detail_row holds.Text (shown.Indicated level) = row.IndicatedText
detail_row holds.Text other = row.DetailText
detail_row (holds.Amount decimals rule) (shown.Marked mark) = row.MarkedAmount
detail_row (holds.Amount decimals rule) other = row.DetailAmount

-- the row of a total
abbrev pub total_row : FieldKind → LegendRow
total_row (holds.Amount decimals (Some rule)) = row.SignedTotal
total_row other = row.Total

-- the row of a line of a chart
abbrev pub row_of : List Line → Statement → LegendRow
row_of lines (says.Field field) = field_row field.kind
row_of lines (says.Control level name) = row.Control
row_of lines (says.Print prints.Detail) = row.PrintDetail
row_of lines (says.Print prints.Group) = row.PrintGroup
row_of lines (says.Head line wheel literal) = row.Heading
row_of lines (says.DetailLiteral wheel literal) = row.DetailLiteral
row_of lines (says.DetailField wheel name how) = detail_row (kind_named (field_named lines name)) how
row_of lines (says.TotalLiteral level wheel literal) = row.TotalLiteral
row_of lines (says.TotalText level wheel name) = row.TotalText
row_of lines (says.TotalAmount total) = total_row (kind_named (field_named lines total.name))
row_of lines (says.Space line spacing.Single) = row.SingleSpace
row_of lines (says.Space line wider) = row.WiderSpace
row_of lines (says.After line action.Page) = row.Page
row_of lines (says.After line (action.Skip channel)) = row.Skip
row_of lines (says.Form count first overflow) = row.Form
row_of lines (says.Tape channel stops) = row.Tape

-- the sentence of a row
abbrev pub sentence : LegendRow → List ℕ
sentence row.Field = wording.FIELD.now
sentence row.SignedField = wording.SIGNED_FIELD.now
sentence row.Control = wording.CONTROL.now
sentence row.PrintDetail = wording.PRINT_DETAIL.now
sentence row.PrintGroup = wording.PRINT_GROUP.now
sentence row.Heading = wording.HEADING.now
sentence row.DetailLiteral = wording.DETAIL_LITERAL.now
sentence row.DetailText = wording.DETAIL_TEXT.now
sentence row.IndicatedText = wording.INDICATED_TEXT.now
sentence row.DetailAmount = wording.DETAIL_AMOUNT.now
sentence row.MarkedAmount = wording.MARKED_AMOUNT.now
sentence row.TotalLiteral = wording.TOTAL_LITERAL.now
sentence row.TotalText = wording.TOTAL_TEXT.now
sentence row.Total = wording.TOTAL.now
sentence row.SignedTotal = wording.SIGNED_TOTAL.now
sentence row.SingleSpace = wording.SINGLE_SPACE.now
sentence row.WiderSpace = wording.WIDER_SPACE.now
sentence row.Page = wording.PAGE.now
sentence row.Skip = wording.SKIP.now
sentence row.Form = wording.FORM.now
sentence row.Tape = wording.TAPE.now
