-- What the rules say of a chart's form: a page has room, stops rise on the form, and a skip goes to a channel with stops.
use Rattle.std.specs.Prelude.{◌≡◌, ℕ, ◌+◌, ◌<◌, ◌≤◌, true, List, Some}
use Rattle.report_definition.specs.Below.chart_line_rules.PrintRules.Tapes.{rise_above, are_within}
use Rattle.report_definition.specs.Below.chart_lines.declared.charts.chart.Line.{Line}
use Rattle.report_definition.specs.Below.chart_lines.declared.charts.statement.After.TheVariants as action
use Rattle.report_definition.specs.ChartForm.{form_of, heading_count, spacing_of, after_of, stops_of}
use Rattle.report_definition.specs.Places.{top_line}

-- A page has room for the heading lines above the overflow line, and for a line of any spacing after one that stands above it.
pub record HasRoom (lines : List Line) : Type 0 where
  pub first : 1 ≤ (form_of lines).first
  pub top : top_line lines < (form_of lines).overflow
  pub bottom : (form_of lines).overflow + 2 ≤ (form_of lines).lines
  pub long : (form_of lines).lines ≤ 144
  pub few_headings : heading_count lines ≤ 3
  pub spacing_from : (kind : ℕ) → 1 ≤ spacing_of lines kind
  pub spacing_to : (kind : ℕ) → spacing_of lines kind ≤ 3

-- The stops of each channel rise on the form.
pub record HasGoodStops (lines : List Line) : Type 0 where
  pub rise : (channel : ℕ) → rise_above 0 (stops_of lines channel) ≡ true
  pub within : (channel : ℕ) → are_within (form_of lines).lines (stops_of lines channel) ≡ true

-- A skip that follows a kind of line goes to one of the channels 2 to 11.
pub record HasGoodSkips (lines : List Line) : Type 0 where
  pub from : (kind channel : ℕ) → after_of lines kind ≡ Some (action.Skip channel) → 2 ≤ channel
  pub to : (kind channel : ℕ) → after_of lines kind ≡ Some (action.Skip channel) → channel ≤ 11

-- What a lawful chart says of the form.
pub record HasGoodForm (lines : List Line) : Type 0 where
  pub room : HasRoom lines
  pub stops : HasGoodStops lines
  pub skips : HasGoodSkips lines
