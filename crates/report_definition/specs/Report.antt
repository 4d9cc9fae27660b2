-- The report of a deck by a chart: under PRINT DETAIL a line for each card, and a total line for each group of a level that has items, at
-- their places, as the bytes of pages.
use Rattle.std.specs.Prelude.{ℕ, List, [], ◌∷◌, if◌then◌else◌}
use Rattle.std.specs.List.{flat_map}
use Rattle.page_text.specs.declared.placed_lines.placed_line.PlacedLine.{PlacedLine}
use Rattle.chart_lines.specs.ChartsWords.Chart.{Chart}
use Rattle.chart_lines.specs.declared.charts.chart.Line.{Line}
use Rattle.page_text.specs.Pages.{Pages}
use Rattle.report_definition.specs.BodyLines.{card_line, total_line}
use Rattle.report_definition.specs.ChartForm.{form_of, prints_details, prints_totals}
use Rattle.report_definition.specs.Outline.{OutlineLine, Detail, Total, outline_of}
use Rattle.report_definition.specs.Places.{BodyText, before_all, placed}

-- the body lines of one line of the outline: one, or none where its kind is not printed
abbrev pub body_of : List Line → OutlineLine → List BodyText
body_of lines (Detail opens card) =
    if prints_details lines then record { kind = 0; text = card_line lines opens card } ∷ [] else []
body_of lines (Total level group) =
    if prints_totals lines level then record { kind = level; text = total_line lines level group } ∷ [] else []

-- the body lines of a deck, in order
abbrev pub body_lines : List Line → List (List ℕ) → List BodyText
body_lines lines cards = flat_map (body_of lines) (outline_of lines cards)

-- the lines of a report with their places
abbrev pub report_lines : Chart → List (List ℕ) → List PlacedLine
report_lines chart cards = placed chart.lines before_all (body_lines chart.lines cards)

-- the bytes of a report
abbrev pub Report : Chart → List (List ℕ) → List ℕ
Report chart cards = Pages (report_lines chart cards) (form_of chart.lines).lines
