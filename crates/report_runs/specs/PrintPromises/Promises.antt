-- What it is for a setup to print a chart's reports, and to begin them.
use Rattle.std.specs.Prelude.{◌≡◌, ℕ, ◌≤◌, List, ◌∷◌, ◌++◌, length, All}
use Rattle.card_code.specs.MostCards.{most_cards}
use Rattle.page_text.specs.declared.placed_lines.placed_line.PlacedLine.{PlacedLine}
use Rattle.chart_rules.specs.ValidCard.{IsValidCard}
use Rattle.chart_lines.specs.ChartsWords.Chart.{Chart}
use Rattle.report_definition.specs.FollowedDecks.FitBefore.{FitBefore}
use Rattle.report_definition.specs.FollowedDecks.Stands.{report_before}
use Rattle.hubs.specs.SetupsWords.Wiring.{Wiring}
use Rattle.machine.specs.Feeds.{FedLines}
use Rattle.machine.specs.Machine.{MachineState, machine_at_start}
use Rattle.machine.specs.Runs.{MachineLines}
use Rattle.page_text.specs.Pages.{Pages}
use Rattle.report_definition.specs.ChartForm.{form_of}
use Rattle.report_definition.specs.Report.{Report}
use Rattle.report_definition.specs.Totals.{Fits}

-- a valid deck: its cards are valid for the chart, at most 999,999 of them
pub record IsDeck (chart : Chart) (cards : List (List ℕ)) : Type 0 where
  pub valid : All (IsValidCard chart) cards
  pub long : length cards ≤ most_cards

-- For every such deck whose totals fit the machine has a run, and the pages of the lines that it places are the report, byte by byte.
abbrev pub PrintsReport : Chart → Wiring → Type 0
PrintsReport chart wiring =
    (cards : List (List ℕ)) → IsDeck chart cards → Fits chart.lines cards →
    ((lines : List PlacedLine) × MachineLines wiring cards lines)
    × ((lines : List PlacedLine) → MachineLines wiring cards lines → Pages lines (form_of chart.lines).lines ≡ Report chart cards)

-- For every such deck, whatever cards come after it, where the totals that end before its last card fit: the machine can be fed its cards,
-- and the lines that it then has placed, which are those before the last card's, are those of the report.
abbrev pub BeginsReport : Chart → Wiring → Type 0
BeginsReport chart wiring =
    (card : List ℕ) (cards later : List (List ℕ)) → IsDeck chart (card ∷ cards) →
    FitBefore chart.lines (card ∷ (cards ++ later)) (length cards) →
    ((left : MachineState) × (lines : List PlacedLine) × FedLines wiring (machine_at_start wiring) (card ∷ cards) left lines)
    × ((left : MachineState) (lines : List PlacedLine) → FedLines wiring (machine_at_start wiring) (card ∷ cards) left lines →
    lines ≡ report_before chart (card ∷ (cards ++ later)) (length cards))
