-- A law of layouts: each item stands on its wheels.
use Rattle.std.specs.Prelude.{◌≡◌, ◌≤◌, ◌<◌, ◌+◌, ◌-◌, ℕ, List, Contains, Some, length, slice_index}
use Rattle.chart_lines.specs.ChartsWords.Chart.{Chart}
use Rattle.chart_lines.specs.ChartsWords.Literals.{literal_in}
use Rattle.chart_lines.specs.declared.charts.chart.Line.{Line}
use Rattle.chart_line_rules.specs.declared.print_rules.items.Item.{Item}
use Rattle.chart_line_rules.specs.declared.print_rules.items.PrintedLine.{PrintedLine}
use Rattle.chart_rules.specs.Rules.{IsLawful}
use Rattle.cli_sheets.specs.SheetsWords.Layout.{drawn, drawn_line, item_on}

-- An item is drawn on its wheels: it has a character for each of them, these are among the wheels 1 to 120, and on the line each of them
-- shows the item's own character.
pub record StandsOnWheels (lines : List Line) (printed : PrintedLine) (item : Item) (characters : List ℕ) : Type 0 where
  pub from : 1 ≤ item.first
  pub to : item.end ≤ 121
  pub long : item.first + length characters ≡ item.end
  pub each : (k : ℕ) → k < length characters
      → slice_index (drawn_line lines printed) (item.first + k - 1) ≡ slice_index characters k

-- Each item of a chart that breaks no rule is drawn on its wheels.
abbrev pub ItemsStandOnTheirWheels : Type 0
ItemsStandOnTheirWheels =
    (chart : Chart) (printed : PrintedLine) (line : Line) (item : Item) → IsLawful chart → Contains chart.lines line
    → item_on chart.lines printed line.statement ≡ Some item
    → StandsOnWheels chart.lines printed item (drawn (literal_in line.statement) item)
