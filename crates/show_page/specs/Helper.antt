-- Helper words of the code: a text gains the head of the page, and the page behind the sheets.
use Rattle.std.specs.Prelude.{◌≡◌, ℕ, List, ◌++◌}
use Rattle.show_sums.specs.CardSections.Sections.{sections_text}
use Rattle.chart_lines.specs.declared.charts.chart.Line.{Line}
use Rattle.show_page.specs.CycleSteps.Steps.{AreStepSections, links_text}
use Rattle.explain_wheels.specs.declared.explanations.found.FoundLine.{FoundLine}
use Rattle.show_links.specs.declared.shown.ShownRun.{ShownRun}
use Rattle.show_drawings.specs.DrawingsWords.PanelDrawing.Drawing.{IsDrawing}
use Rattle.page_text.specs.declared.placed_lines.placed_line.PlacedLine.{PlacedLine}
use Rattle.hubs.specs.SetupsWords.Wiring.{Wiring}
use Rattle.show_drawings.specs.declared.drawings.panel_drawing.drawing.PanelWire.{PanelWire}
use Rattle.show_sections.specs.WheelSections.Sections.{told_sections}
use Rattle.explain_words.specs.declared.explanation_text.text.ToldWheel.{ToldWheel}
use Rattle.show_sections.specs.WireSections.Sections.{AreWireSections}
use Rattle.show_links.specs.declared.sum_places.places.SumPlace.{SumPlace}
use Rattle.show_sums.specs.SumSections.Sections.{sum_sections_text}
use Rattle.show_sums.specs.declared.sum_sections.sums.PageSum.{PageSum}
use Rattle.explain_words.specs.declared.traces.parts.TracePart.{TracePart}
use Rattle.explain_wheel_ledgers.specs.declared.chart_totals.TitledAccount.{TitledAccount}
use Rattle.show_page.specs.Begin.{begin_text}
use Rattle.show_page.specs.Cycles.{shown_cycles}
use Rattle.show_page.specs.Frame.{IsStyle, document_close, stage_open}
use Rattle.show_page.specs.Marks.{page_rules}
use Rattle.show_page.specs.Titles.{head_text}
use Rattle.show_page.specs.declared.head.RunCounts.{RunCounts}

-- the head, with a style sheet that has the rules of some lines behind the others
pub record GainsHead (heading : List ℕ) (counts : RunCounts) (lines : List PlacedLine) (old new : List ℕ) : Type 0 where
  pub style : List ℕ
  pub is_style : IsStyle (style ++ page_rules lines)
  pub gained : new ≡ old ++ head_text (style ++ page_rules lines) heading counts

-- the drawing, the legend, where to begin, what is told of wheels, of sums at these places, of the cards that are shown and of wires, the
-- cycles of a part of the trace, and the points of those that printed these lines
pub record GainsBody (wiring : Wiring) (found : List FoundLine) (chart : List Line) (run : ShownRun) (cards : List (List ℕ))
    (part : TracePart) (wires : List PanelWire) (legend : List ℕ) (totals : List TitledAccount) (told : List ToldWheel)
    (sums : List PageSum) (places : List SumPlace) (old new : List ℕ) : Type 0 where
  pub drawing : List ℕ
  pub drawn : IsDrawing wires drawing
  pub ways : List ℕ
  pub are_ways : AreWireSections wires told places ways
  pub steps : List ℕ
  pub are_steps : AreStepSections wiring wires found steps
  pub gained : new
      ≡ old ++ drawing ++ legend ++ stage_open ++ begin_text told sums run.cards.first cards wires part
      ++ told_sections run.cards places totals told ++ sum_sections_text run.cards sums
      ++ sections_text chart run part.text.items sums cards ++ ways ++ shown_cycles part ++ links_text found ++ steps
      ++ document_close
