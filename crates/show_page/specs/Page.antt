-- The page of a setup and a deck: the printed pages, the drawing of the panel, the legend, an explanation of each printed character, and
-- what came through each wire, and the cycles of the run.
use Rattle.std.specs.Prelude.{◌≡◌, ℕ, Bool, List, [], ◌++◌, decimal, Option, None, Some, String, if◌then◌else◌, length, map, nat_le}
use Rattle.std.specs.declared.alloc.Global.{Global}
use Rattle.show_drawings.specs.DrawingsWords.CardDrawing.Drawings.{shapes_text}
use Rattle.show_sums.specs.CardSections.Decks.{deck_text}
use Rattle.show_sums.specs.CardSections.Sections.{sections_text}
use Rattle.chart_lines.specs.declared.charts.chart.Line.{Line}
use Rattle.show_page.specs.CycleSteps.Steps.{AreStepSections, links_text}
use Rattle.explain_wheels.specs.ExplanationsWords.Pages.{AreFoundLines}
use Rattle.explain_wheels.specs.declared.explanations.found.FoundLine.{FoundLine}
use Rattle.hubs.specs.declared.hub.Hub.{Hub}
use Rattle.show_sections.specs.ChartPanels.Asking.{AreChartWires}
use Rattle.show_sections.specs.ChartPanels.Legends.{IsLegendSection}
use Rattle.wiring_legend.specs.LineSetups.{AreLineSetups}
use Rattle.machine.specs.Runs.{MachineLines}
use Rattle.show_drawings.specs.MarkupWords.Escapes.{escaped}
use Rattle.show_drawings.specs.MarkupWords.Pieces.{EachText}
use Rattle.show_links.specs.Links.{is_shown}
use Rattle.show_links.specs.declared.shown.Shown.{Shown}
use Rattle.show_links.specs.declared.shown.ShownRun.{ShownRun}
use Rattle.show_drawings.specs.DrawingsWords.PanelDrawing.Drawing.{IsDrawing}
use Rattle.show_drawings.specs.declared.drawings.panel_drawing.drawing.PanelWire.{PanelWire}
use Rattle.page_text.specs.declared.placed_lines.placed_line.PlacedLine.{PlacedLine}
use Rattle.chart_plans.specs.PlansWords.Plans.{Lists}
use Rattle.show_sections.specs.ReportSheets.Sheets.{sheets_text, widest}
use Rattle.hubs.specs.SetupsWords.Wires.{AreWiresOf}
use Rattle.hubs.specs.SetupsWords.Wiring.{Wiring}
use Rattle.show_page.specs.ShownLines.Shown.{shown}
use Rattle.show_sums.specs.SumSections.Sections.{sum_sections_text}
use Rattle.show_sums.specs.SumSections.Sums.{AreSums, place_of}
use Rattle.show_sums.specs.declared.sum_sections.sums.PageSum.{PageSum}
use Rattle.explain_words.specs.TracesWords.Parts.{IsTracePart}
use Rattle.explain_words.specs.declared.traces.parts.TracePart.{TracePart}
use Rattle.explain_wheel_ledgers.specs.Totals.{totals_in}
use Rattle.explain_wheel_ledgers.specs.declared.chart_totals.TitledAccount.{TitledAccount}
use Rattle.show_sections.specs.WheelSections.Sections.{told_sections}
use Rattle.show_sections.specs.WheelSections.ToldWheels.{AreTold, printed_places}
use Rattle.explain_words.specs.declared.explanation_text.text.ToldWheel.{ToldWheel}
use Rattle.show_sections.specs.WireSections.Sections.{AreWireSections}
use Rattle.wiring_text.specs.declared.statement.Version.{Version}
use Rattle.show_page.specs.Begin.{begin_text}
use Rattle.show_page.specs.Choice.{cycles_shown, first_shown, pages_shown}
use Rattle.show_page.specs.Cycles.{shown_cycles}
use Rattle.show_page.specs.Frame.{IsStyle, around_words, cards_link, cards_open, cut_words, document_close, legend_open, main_open, nav_open, panel_open, sheets_close, sheets_open, stage_open, wiring_close, wiring_open}
use Rattle.show_page.specs.Marks.{page_rules}
use Rattle.show_page.specs.Shown.{shown_cards, shown_run}
use Rattle.show_page.specs.Titles.{head_text, heading_of}
use Rattle.show_page.specs.declared.head.RunCounts.{RunCounts}

-- what is said where not all pages are shown
abbrev pub cut_text : (around : Option ℕ) → (cards : ℕ) → List ℕ
cut_text None cards = if nat_le cards 200 then [] else cut_words
cut_text (Some page) cards = around_words page

-- whether some cards are shown: then the first of them is
abbrev pub is_any_shown : Shown → Bool
is_any_shown cards = is_shown cards cards.first

-- the links to the parts of the page
abbrev pub link_if : Bool → List ℕ
link_if are_cards = if are_cards then cards_link else []

unfoldable pub nav_text : Shown → List ℕ
nav_text linked = nav_open ++ link_if (is_any_shown linked)

-- the sheets, behind the head of the page
unfoldable pub sheets_front : Shown → (around : Option ℕ) → (cards wide : ℕ) → List ℕ
sheets_front linked around cards wide = cut_text around cards ++ nav_text linked ++ main_open ++ decimal wide ++ sheets_open

unfoldable pub sheets_part : Shown → (around : Option ℕ) → (cards : ℕ) → List PlacedLine → List FoundLine → (long : ℕ) → List ℕ
sheets_part linked around cards lines found long =
    sheets_front linked around cards (widest lines) ++ sheets_text linked lines found long (first_shown around)

-- the cards that are shown, where there are such, with the fields of a chart; and what stands before the drawing
unfoldable pub cards_text : (chart : List Line) → (first : ℕ) → (cards : List (List ℕ)) → List ℕ
cards_text chart first cards = cards_open ++ shapes_text chart first cards ++ deck_text first cards

abbrev pub shown_cards_text : (chart : List Line) → Shown → (cards : List (List ℕ)) → List ℕ
shown_cards_text chart linked cards = if is_any_shown linked then cards_text chart linked.first cards else []

unfoldable pub cards_part : (chart : List Line) → Shown → (cards : List (List ℕ)) → List ℕ
cards_part chart linked cards = sheets_close ++ shown_cards_text chart linked cards ++ panel_open

-- the page, by its parts
unfoldable pub page_text : (style : List ℕ) → (chart : List Line) → (around : Option ℕ) → ShownRun → (cards : List (List ℕ)) → RunCounts
    → TracePart → List PlacedLine → List FoundLine → (long : ℕ) → List PanelWire → (drawing legend : List ℕ) → List TitledAccount
    → List ToldWheel → List PageSum → (ways steps : List ℕ) → List ℕ
page_text style chart around run cards counts part lines found long wires drawing legend totals told sums ways steps =
    head_text (style ++ page_rules lines) (heading_of chart) counts
    ++ sheets_part run.cards around counts.cards lines found long
    ++ cards_part chart run.cards cards
    ++ drawing
    ++ legend
    ++ stage_open
    ++ begin_text told sums run.cards.first cards wires part
    ++ told_sections run.cards (map place_of sums) totals told
    ++ sum_sections_text run.cards sums
    ++ sections_text chart run part.text.items sums cards
    ++ ways
    ++ shown_cycles part
    ++ links_text found
    ++ steps
    ++ document_close

-- the lines that are shown, of those of a run over so many cards
abbrev pub lines_shown : (around : Option ℕ) → (cards : ℕ) → List PlacedLine → List PlacedLine
lines_shown around cards lines = shown (pages_shown around cards) lines

-- how much a run has of what is counted at the head of its page
abbrev pub counts_of : List (List ℕ) → List PlacedLine → List PanelWire → RunCounts
counts_of deck lines wires = record { cards = length deck; lines = length lines; wires = length wires }

-- The page of a setup and a deck, with the heading and the fields of a chart, around a page of the report or none: of the lines that the
-- machine prints those that are shown, each with the cycle that printed it, each card that is shown is drawn, and each wire of the list is
-- drawn once; each printed character that is shown is told of, where it is known who asks for wires, and has its element, and so have the
-- sums behind them, by the totals that are known, each card that is shown, and each wire, with what came through it and the sums that its
-- counter held; the cycles are those of the run that are shown; each line that is shown has the points of the cycle that printed it; and the
-- style sheet has a rule for each page that is shown with a line, behind rules that nothing is said of but that they hold no markup.
pub record IsPage (wiring : Wiring) (asked : List (String Global × Wiring)) (totals : List TitledAccount) (deck : List (List ℕ))
    (chart : List Line) (wires : List PanelWire) (legend : List ℕ) (around : Option ℕ) (text : List ℕ) : Type 0 where
  pub lines : List PlacedLine
  pub run : MachineLines wiring deck lines
  pub style : List ℕ
  pub is_style : IsStyle (style ++ page_rules (lines_shown around (length deck) lines))
  pub found : List FoundLine
  pub are_found : AreFoundLines wiring deck (lines_shown around (length deck) lines) found
  pub told : List ToldWheel
  pub are_told : AreTold wiring asked deck (printed_places (lines_shown around (length deck) lines)) told
  pub sums : List PageSum
  pub are_sums : AreSums wiring totals deck told sums
  pub drawing : List ℕ
  pub drawn : IsDrawing wires drawing
  pub ways : List ℕ
  pub are_ways : AreWireSections wires told (map place_of sums) ways
  pub steps : List ℕ
  pub are_steps : AreStepSections wiring wires found steps
  pub part : TracePart
  pub traced : IsTracePart wiring deck (cycles_shown around (length deck) found) part
  pub spelled : text
      ≡ page_text style chart around (shown_run (cycles_shown around (length deck) found) (length deck) part)
      (shown_cards (cycles_shown around (length deck) found) deck) (counts_of deck lines wires) part
      (lines_shown around (length deck) lines) found wiring.tape.lines wires drawing legend totals told sums ways steps

-- The page of a chart, its plan and its setup, and a deck: the heading and the fields are those of the chart, the wires are those of the
-- setup, the legend is that of the chart, its lines are those that ask for wires, and its totals are those that are known.
pub record ShowsChart (version : Version) (lines : List Line) (plan : Lists) (setup : Wiring) (source : List ℕ)
    (deck : List (List ℕ)) (around : Option ℕ) (text : List ℕ) : Type 0 where
  pub wires : List PanelWire
  pub are : AreChartWires lines plan setup wires
  pub legend : List ℕ
  pub is_legend : EachText (IsLegendSection version lines plan source) lines legend
  pub asked : List (String Global × Wiring)
  pub are_asked : AreLineSetups lines plan source (length lines) asked
  pub page : IsPage setup asked (totals_in lines plan lines) deck lines wires (legend_open ++ legend) around text

-- a wire that no line of a chart asks for
abbrev pub unasked : Hub × Hub → PanelWire
unasked pair = record { exit = pair.0; entry = pair.1; line = 0 }

-- the text of a wiring chart, in place of a legend
unfoldable pub wiring_text : List ℕ → List ℕ
wiring_text source = wiring_open ++ escaped source ++ wiring_close

-- The page of a panel that is wired as a wiring chart says, and a deck: it has no heading and no fields, the wires are those of the panel,
-- nobody is known who asks for them, no totals are known, and the wiring chart stands in place of the legend.
pub record ShowsPanel (setup : Wiring) (source : List ℕ) (deck : List (List ℕ)) (around : Option ℕ) (text : List ℕ) : Type 0 where
  pub pairs : List (Hub × Hub)
  pub all : AreWiresOf setup pairs
  pub page : IsPage setup [] [] deck [] (map unasked pairs) (wiring_text source) around text
