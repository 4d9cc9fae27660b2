-- The pages of served runs of a setup that is wired for a chart are the chart's reports.
use Rattle.std.specs.Prelude.{◌≡◌, ℕ, List}
use Rattle.chart_lines.specs.ChartsWords.Chart.{Chart}
use Rattle.compile407.specs.Headline.{IsSound}
use Rattle.page_text.specs.Pages.{Pages}
use Rattle.page_text.specs.declared.placed_lines.placed_line.PlacedLine.{PlacedLine}
use Rattle.chart_plans.specs.PlansWords.Plans.{Lists, ServesChart}
use Rattle.compile407.specs.Below.report_runs.PrintPromises.Promises.{IsDeck, PrintsReport}
use Rattle.report_definition.specs.ChartForm.{form_of}
use Rattle.report_definition.specs.Report.{Report}
use Rattle.report_definition.specs.Totals.{Fits}
use Rattle.machine_served.specs.ServedRuns.Runs.{IsServedRun}
use Rattle.machine_served.specs.declared.served_runs.counts.Counts.{Counts}
use Rattle.machine_served.specs.ServedUnits.Runs.{ServedLines}
use Rattle.hubs.specs.SetupsWords.Wiring.{Wiring}
use Rattle.wiring_table.specs.WiredFor.{WiredFor}

-- Where the units run ahead of one another: for every valid deck whose totals fit there is a run by schedules, and the pages of the lines
-- that any such run places are the report, byte by byte; so are those of any run that is served by the orders of a service.
pub record PrintsReportServed (chart : Chart) (wiring : Wiring) : Type 0 where
  pub runs : (cards : List (List ℕ)) → IsDeck chart cards → Fits chart.lines cards →
      (lines : List PlacedLine) × ServedLines wiring cards lines
  pub by_schedules : (cards : List (List ℕ)) (lines : List PlacedLine) → IsDeck chart cards → Fits chart.lines cards →
      ServedLines wiring cards lines → Pages lines (form_of chart.lines).lines ≡ Report chart cards
  pub by_orders : (cards service : List (List ℕ)) (lines : List PlacedLine) (counts : Counts) → IsDeck chart cards → Fits chart.lines cards →
      IsServedRun wiring service cards lines counts → Pages lines (form_of chart.lines).lines ≡ Report chart cards

-- A setup that prints a chart's reports where all units act at once prints them where the units run ahead of one another.
abbrev pub ServedSetupsPrintTheirReports : Type 0
ServedSetupsPrintTheirReports = (chart : Chart) (wiring : Wiring) → PrintsReport chart wiring → PrintsReportServed chart wiring

-- Every setup that is wired for a sound chart by a plan of it prints the chart's reports where the units run ahead of one another.
abbrev pub WiredSetupsPrintReportsServed : Type 0
WiredSetupsPrintReportsServed =
    (chart : Chart) (plan : Lists) (wiring : Wiring) → IsSound chart → ServesChart chart.lines plan →
    WiredFor chart.lines plan wiring → PrintsReportServed chart wiring
