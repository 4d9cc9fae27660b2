-- The law of machines that are wired for charts.
use Rattle.std.specs.Prelude.{◌≡◌, ℕ, ◌≤◌, List, All, length}
use Rattle.report_definition.specs.Below.card_code.MostCards.{most_cards}
use Rattle.proof_reports.specs.Below.chart_plans.PlansWords.Plans.{Lists}
use Rattle.report_definition.specs.Below.page_text.declared.placed_lines.placed_line.PlacedLine.{PlacedLine}
use Rattle.report_definition.specs.Below.chart_rules.ValidCard.{IsValidCard}
use Rattle.report_definition.specs.Below.chart_lines.ChartsWords.Chart.{Chart, NumbersRise}
use Rattle.report_definition.specs.Below.chart_lines.ChartsWords.Literals.{HaveLiteralTexts}
use Rattle.proof_reports.specs.Below.hubs.SetupsWords.Wiring.{Wiring}
use Rattle.proof_reports.specs.WiredPanels.Panel.{IsPanel}
use Rattle.proof_reports.specs.Below.machine.Runs.{MachineLines}
use Rattle.report_definition.specs.Report.{report_lines}
use Rattle.report_definition.specs.Totals.{Fits}

-- For every chart that breaks no rule, whose line numbers rise and whose literals can be printed, as in every chart that is read, every
-- setup that is wired for it by a plan of it, and every deck of at most 999,999 valid cards whose totals fit, the lines that the machine
-- places are those of the chart's report of the deck.
abbrev pub MachinesPrintReports : Type 0
MachinesPrintReports =
    (chart : Chart) (plan : Lists) (wiring : Wiring) (cards : List (List ℕ)) (lines : List PlacedLine)
    → IsPanel chart plan wiring → NumbersRise chart.lines chart.end → HaveLiteralTexts chart.lines
    → All (IsValidCard chart) cards → length cards ≤ most_cards → Fits chart.lines cards → MachineLines wiring cards lines
    → lines ≡ report_lines chart cards
