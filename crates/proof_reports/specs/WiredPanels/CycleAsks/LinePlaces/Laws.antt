-- Laws of places: where the carriage of a machine that is wired for a chart places its lines, and which cycles come before them.
use Rattle.std.specs.Prelude.{◌≡◌, ℕ, ◌<◌, ◌≤◌, ◌^◌, true, false, List, [], ◌∷◌, Some, None}
use Rattle.carriage.specs.Below.hubs.SetupsWords.Wiring.{Wiring}
use Rattle.carriage.specs.Below.net.Printing.{prints}
use Rattle.carriage.specs.Below.net.declared.cycle.Cycle.{Cycle}
use Rattle.carriage.specs.Below.net.declared.printing.Printing.{Printing}
use Rattle.carriage.specs.Asked.{nothing_asked}
use Rattle.carriage.specs.Carriage.{CarriageState, carriage_at_start}
use Rattle.report_definition.specs.Below.page_text.declared.placed_lines.placed_line.PlacedLine.{PlacedLine}
use Rattle.carriage.specs.declared.spot.Spot.{Spot}
use Rattle.program_unit.specs.CycleOrder.{headed as headed_by}
use Rattle.report_definition.specs.Below.chart_lines.ChartsWords.Chart.{Chart}
use Rattle.report_definition.specs.Below.chart_lines.declared.charts.chart.Line.{Line}
use Rattle.report_definition.specs.Below.chart_rules.Rules.{IsLawful}
use Rattle.report_definition.specs.BodyLines.{heading_line}
use Rattle.report_definition.specs.ChartForm.{heading_count}
use Rattle.report_definition.specs.Places.{BodyText, Left, before_all, page_of, line_below, left_by, headed, placed}
use Rattle.proof_reports.specs.WiredPanels.CycleAsks.LinePlaces.Placing.{printing_of_chart, kind_of, prints_kind, asked_of, IsCarriageOf, IsAt, AwaitsBody}
use Rattle.proof_reports.specs.WiredPanels.CycleAsks.LinePlaces.CarriageCycles.{carriage_after, carriage_after_all, lines_placed, heading_cycles, cycles_for, begins_page, begun_by}
use Rattle.proof_reports.specs.WiredPanels.CycleAsks.LinePlaces.FormFacts.{HasGoodForm}

-- A lawful chart has a good form.
abbrev pub LawfulChartsHaveGoodForms : Type 0
LawfulChartsHaveGoodForms = (chart : Chart) → IsLawful chart → HasGoodForm chart.lines

-- A lawful chart asks for nothing in the cycles of a kind of line that it doesn't print.
abbrev pub UnprintedKindsAskForNothing : Type 0
UnprintedKindsAskForNothing =
    (chart : Chart) (kind : ℕ) → IsLawful chart → prints_kind chart.lines kind ≡ false
    → asked_of chart.lines kind ≡ nothing_asked

-- A chart's jacks let a cycle that can print a kind of body line print exactly where the chart prints that kind.
abbrev pub JacksPrintTheKinds : Type 0
JacksPrintTheKinds =
    (lines : List Line) (cycle : Cycle) (kind : ℕ) → kind_of cycle ≡ Some kind
    → prints (printing_of_chart lines) cycle ≡ prints_kind lines kind

-- A run starts where no line has left a form.
abbrev pub RunsStartBeforeAllLines : Type 0
RunsStartBeforeAllLines = (lines : List Line) (wiring : Wiring) → IsAt lines before_all (carriage_at_start wiring).spot

-- A cycle placed a body line where the report does, and the carriage stands where that line leaves the form.
pub record IsBodyLinePlaced (lines : List Line) (left : Left) (kind : ℕ) (after : CarriageState) : Type 0 where
  pub place : after.printed ≡ Some (page_of left, line_below lines left.line kind)
  pub stands : IsAt lines (left_by lines left kind) after.spot
  pub keeps : IsCarriageOf lines after

-- A body line is placed where the report places it, if the carriage stands ready for it.
abbrev pub BodyLinesArePlaced : Type 0
BodyLinesArePlaced =
    (lines : List Line) (left : Left) (carriage : CarriageState) (cycle : Cycle) (kind : ℕ)
    → HasGoodForm lines → IsCarriageOf lines carriage → AwaitsBody lines left carriage.spot
    → kind_of cycle ≡ Some kind → prints_kind lines kind ≡ true
    → IsBodyLinePlaced lines left kind (carriage_after carriage (asked_of lines kind) cycle)

-- the texts of a chart's heading lines, by their numbers
abbrev pub AreHeadingTexts : List Line → (ℕ → List ℕ) → Type 0
AreHeadingTexts lines texts =
    (number : ℕ) → 1 ≤ number → number ≤ heading_count lines → texts number ≡ heading_line lines number

-- The heading cycles placed a page's heading lines, and the carriage stands ready for its first body line.
pub record AreHeadingsPlaced (lines : List Line) (left : Left) (carriage : CarriageState) (texts : ℕ → List ℕ) : Type 0 where
  pub heads : lines_placed carriage (heading_cycles texts) ≡ headed lines left
  pub ready : AwaitsBody lines left (carriage_after_all carriage (heading_cycles texts)).spot
  pub keeps : IsCarriageOf lines (carriage_after_all carriage (heading_cycles texts))

-- Where the next line starts a page, the three heading cycles place the heading lines of that page and no others.
abbrev pub HeadingsArePlaced : Type 0
HeadingsArePlaced =
    (lines : List Line) (left : Left) (carriage : CarriageState) (texts : ℕ → List ℕ)
    → HasGoodForm lines → IsCarriageOf lines carriage → IsAt lines left carriage.spot
    → left.line ≡ None → left.page < 2 ^ 32 → AreHeadingTexts lines texts
    → AreHeadingsPlaced lines left carriage texts

-- Where the next line starts no page, the carriage stands ready for it, and no heading lines come before it.
abbrev pub NoHeadingsWithinAPage : Type 0
NoHeadingsWithinAPage =
    (lines : List Line) (left : Left) (spot : Spot) (line : ℕ) → IsAt lines left spot → left.line ≡ Some line
    → AwaitsBody lines left spot × (headed lines left ≡ [])

-- Cycles placed a body line with the heading lines before it as the report does.
pub record AreLinesPlaced (lines : List Line) (left : Left) (body : BodyText) (placed_lines : List PlacedLine)
    (after : CarriageState) : Type 0 where
  pub places : placed_lines ≡ placed lines left (body ∷ [])
  pub stands : IsAt lines (left_by lines left body.kind) after.spot
  pub keeps : IsCarriageOf lines after

-- A body line, with the heading cycles before it where the restore latch is set, is placed as in the report.
abbrev pub LinesArePlaced : Type 0
LinesArePlaced =
    (lines : List Line) (left : Left) (carriage : CarriageState) (cycle : Cycle) (body : BodyText) (texts : ℕ → List ℕ)
    → HasGoodForm lines → IsCarriageOf lines carriage → IsAt lines left carriage.spot
    → kind_of cycle ≡ Some body.kind → prints_kind lines body.kind ≡ true → left.page < 2 ^ 32 → AreHeadingTexts lines texts
    → AreLinesPlaced lines left body
    (lines_placed carriage (cycles_for lines carriage.spot.latch texts cycle body.kind body.text))
    (carriage_after_all carriage (cycles_for lines carriage.spot.latch texts cycle body.kind body.text))

-- A cycle that doesn't print and begins no page, and in which nothing is asked for, leaves the carriage where it stands.
abbrev pub QuietCyclesStay : Type 0
QuietCyclesStay =
    (carriage : CarriageState) (cycle : Cycle) → prints carriage.printing cycle ≡ false → begins_page cycle ≡ false
    → carriage_after carriage nothing_asked cycle ≡ record carriage { asked = nothing_asked; printed = None }

-- So does, for a lawful chart, the cycle of a kind of body line that the chart doesn't print.
abbrev pub UnprintedKindsStay : Type 0
UnprintedKindsStay =
    (chart : Chart) (carriage : CarriageState) (cycle : Cycle) (kind : ℕ)
    → IsLawful chart → IsCarriageOf chart.lines carriage → kind_of cycle ≡ Some kind → prints_kind chart.lines kind ≡ false
    → carriage_after carriage (asked_of chart.lines kind) cycle ≡ record carriage { asked = nothing_asked; printed = None }

-- Where a printing cycle is due, the first heading cycle comes in its place exactly where its line starts a page.
abbrev pub HeadingsComeWithPages : Type 0
HeadingsComeWithPages =
    (lines : List Line) (left : Left) (spot : Spot) (printing : Printing) (cycle : Cycle) → IsAt lines left spot
    → prints printing cycle ≡ true → headed_by printing spot.latch cycle ≡ begun_by left.line cycle
