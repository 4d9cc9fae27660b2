-- The law of the cycles of machines that are wired for charts.
use Rattle.proof_reports.specs.Below.chart_plans.PlansWords.Plans.{Lists}
use Rattle.report_definition.specs.Below.chart_rules.ValidCard.{IsValidCard}
use Rattle.report_definition.specs.Below.chart_lines.ChartsWords.Chart.{Chart, NumbersRise}
use Rattle.report_definition.specs.Below.chart_lines.ChartsWords.Literals.{HaveLiteralTexts}
use Rattle.proof_reports.specs.Below.hubs.SetupsWords.Wiring.{Wiring}
use Rattle.proof_reports.specs.WiredPanels.Panel.{IsPanel}
use Rattle.proof_reports.specs.PrintedReports.Content.{After, Waits, Within, by_first, by_second}
use Rattle.proof_reports.specs.PrintedReports.Goes.{MachineGoes}

-- Every machine that is wired for a chart does with each card, cycle by cycle, what the chart wants: between its cycles its totals stand for
-- the sums of the unfinished groups, its pilots tell the signs of the card that prints next, its latches which groups a card opens, and its
-- storage units hold the texts of the card that printed.
abbrev pub MachinesGoAsChartsWant : Type 0
MachinesGoAsChartsWant =
    (chart : Chart) (plan : Lists) (wiring : Wiring)
    → IsPanel chart plan wiring → NumbersRise chart.lines chart.end → HaveLiteralTexts chart.lines
    → MachineGoes chart wiring (IsValidCard chart) (Waits chart plan wiring) (After chart plan wiring)
    (λ stand card next level machine. Within chart plan wiring stand card next (by_first chart plan level) level machine)
    (λ stand card next level machine. Within chart plan wiring stand card next (by_second chart plan level) level machine)
