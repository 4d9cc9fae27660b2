-- The page of a panel by the chart that is read off it: that of the chart, and behind its legend the panel's wiring chart.
use Rattle.std.specs.Prelude.{◌≡◌, ℕ, List, ◌++◌, codes, Option, String, length}
use Rattle.std.specs.declared.alloc.Global.{Global}
use Rattle.chart_lines.specs.declared.charts.chart.Line.{Line}
use Rattle.wiring_legend.specs.LineSetups.{AreLineSetups}
use Rattle.show_drawings.specs.MarkupWords.Escapes.{escaped}
use Rattle.show_drawings.specs.MarkupWords.Pieces.{EachText}
use Rattle.show_sections.specs.ChartPanels.Asking.{AreChartWires}
use Rattle.show_sections.specs.ChartPanels.Legends.{IsLegendSection}
use Rattle.show_drawings.specs.declared.drawings.panel_drawing.drawing.PanelWire.{PanelWire}
use Rattle.chart_plans.specs.PlansWords.Plans.{Lists}
use Rattle.hubs.specs.SetupsWords.Wiring.{Wiring}
use Rattle.explain_wheel_ledgers.specs.Totals.{totals_in}
use Rattle.wiring_text.specs.declared.statement.Version.{Version}
use Rattle.show_page.specs.Frame.{wiring_close}
use Rattle.show_page.specs.Page.{IsPage}

-- what stands before the legend
unfoldable pub read_open : List ℕ
read_open = codes "</div>\n<h2 id=\"chart\">The chart for which the panel is wired</h2>\n<p>It was read off the wires, jacks and stops of <a href=\"#wiring\">the wiring chart</a> below. A wire has the colour of the first line that asks for it.</p>\n<div class=\"legend\">\n"

-- what stands between the legend and the text of the wiring chart
unfoldable pub given_open : List ℕ
given_open = codes "</div>\n<h2 id=\"wiring\">The wiring chart</h2>\n<div class=\"legend\">\n<pre class=\"c0\">"

-- the text of the wiring chart, behind the legend
unfoldable pub given_text : List ℕ → List ℕ
given_text wiring = given_open ++ escaped wiring ++ wiring_close

unfoldable pub read_legend : (legend wiring : List ℕ) → List ℕ
read_legend legend wiring = read_open ++ legend ++ given_text wiring

-- a text gains the legend of a chart that is read off a panel, and the panel's wiring chart
pub record GainsReadLegend (version : Version) (lines : List Line) (plan : Lists) (source wiring old new : List ℕ) : Type 0 where
  pub legend : List ℕ
  pub is_legend : EachText (IsLegendSection version lines plan source) lines legend
  pub gained : new ≡ old ++ read_legend legend wiring

-- The page of a panel by a chart and a plan of it, and a deck: the heading, the fields and the totals are those of the chart, the wires are
-- those of the panel, the legend is that of the chart, with the panel's wiring chart behind it, and the chart's lines are those that ask for wires.
pub record ShowsRead (version : Version) (lines : List Line) (plan : Lists) (setup : Wiring) (source wiring : List ℕ)
    (deck : List (List ℕ)) (around : Option ℕ) (text : List ℕ) : Type 0 where
  pub wires : List PanelWire
  pub are : AreChartWires lines plan setup wires
  pub legend : List ℕ
  pub is_legend : EachText (IsLegendSection version lines plan source) lines legend
  pub asked : List (String Global × Wiring)
  pub are_asked : AreLineSetups lines plan source (length lines) asked
  pub page : IsPage setup asked (totals_in lines plan lines) deck lines wires (read_legend legend wiring) around text
