-- The legend of a chart as markup: an element for each line, with the line's group of the legend.
use Rattle.std.specs.Prelude.{◌≡◌, ℕ, ◌%◌, List, ◌++◌, codes, decimal}
use Rattle.chart_lines.specs.declared.charts.chart.Line.{Line}
use Rattle.wiring_legend.specs.Legend.{IsGroup}
use Rattle.show_drawings.specs.MarkupWords.Escapes.{escaped}
use Rattle.chart_plans.specs.PlansWords.Plans.{Lists}
use Rattle.wiring_text.specs.declared.statement.Version.{Version}

-- the element of a line by its number, with a text; its colour is that of the wires for which the line asks
abbrev pub legend_name : ℕ → List ℕ
legend_name number = codes "<pre id=\"line" ++ decimal number

abbrev pub legend_colour : ℕ → List ℕ
legend_colour number = codes "\" class=\"c" ++ decimal (number % 12) ++ codes "\">"

unfoldable pub legend_section : ℕ → List ℕ → List ℕ
legend_section number words = legend_name number ++ legend_colour number ++ escaped words ++ codes "</pre>\n"

-- the element of a line of the chart
pub record IsLegendSection (version : Version) (lines : List Line) (plan : Lists) (source : List ℕ) (line : Line) (text : List ℕ)
    : Type 0 where
  pub group : List ℕ
  pub is_group : IsGroup version lines plan source line group
  pub spelled : text ≡ legend_section line.number group
