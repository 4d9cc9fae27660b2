-- The jacks of a chart: which cycles print, and zero control on the wheels of amounts.
use Rattle.std.specs.Prelude.{◌≡◌, ℕ, ◌+◌, ◌<◌, ◌≤◌, List, Contains, true}
use Rattle.report_definition.specs.Below.chart_line_rules.PrintRules.Items.{figure_width}
use Rattle.report_definition.specs.Below.chart_line_rules.declared.print_rules.items.Figure.{Figure}
use Rattle.chart_plans.specs.Below.chart_lines.declared.charts.chart.Line.{Line}
use Rattle.hubs.specs.declared.jack.Jack.{Jack}
use Rattle.hubs.specs.declared.jack.Jack.TheVariants as jack
use Rattle.report_definition.specs.ChartForm.{heading_count, prints_details, prints_totals}
use Rattle.wiring_table.specs.Figures.{IsFigure, mark_wheel, free_digits}

-- Some line of the chart puts an amount on a line of the report, from a wheel on.
pub record HasFigure (lines : List Line) (wheel : ℕ) (figure : Figure) : Type 0 where
  pub line : Line
  pub listed : Contains lines line
  pub emitter : ℕ
  pub is_figure : IsFigure lines line.statement emitter wheel figure

-- LIST where cards have lines, TOTAL for each level with an item, HEAD for each heading line; LINK on each wheel of an amount but its
-- first, SUPPRESS on the wheels of its digits left of the point, or left of the units, and SYMBOL on the wheels of its mark.
pub data ChartJack (lines : List Line) : Jack → Type 0 where
  list : prints_details lines ≡ true → ChartJack lines jack.List
  total : (level : ℕ) → prints_totals lines level ≡ true → ChartJack lines (jack.Total level)
  head : (heading : ℕ) → 1 ≤ heading → heading ≤ heading_count lines → ChartJack lines (jack.Head heading)
  link : (wheel : ℕ) (figure : Figure) (v : ℕ)
      → HasFigure lines wheel figure → wheel < v → v < wheel + figure_width figure → ChartJack lines (jack.Link v)
  suppress : (wheel : ℕ) (figure : Figure) (v : ℕ)
      → HasFigure lines wheel figure → wheel ≤ v → v < wheel + free_digits figure.digits figure.decimals
      → ChartJack lines (jack.Suppress v)
  symbol : (wheel : ℕ) (figure : Figure) (v : ℕ)
      → HasFigure lines wheel figure → mark_wheel wheel figure.digits figure.decimals ≤ v → v < wheel + figure_width figure
      → ChartJack lines (jack.Symbol v)
