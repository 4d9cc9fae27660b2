-- The headline: the pages that the machine prints, wired for a chart, are the chart's report of the deck.
use Rattle.std.specs.Prelude.{ℕ, List}
use Rattle.chart_plans.specs.PlansWords.Plans.{Lists, ServesChart}
use Rattle.page_text.specs.declared.placed_lines.placed_line.PlacedLine.{PlacedLine}
use Rattle.chart_rules.specs.Rules.{IsLawful}
use Rattle.chart_text.specs.Below.chart_lines.ChartsWords.Chart.{Chart, NumbersRise}
use Rattle.chart_text.specs.Below.chart_lines.ChartsWords.Literals.{HaveLiteralTexts}
use Rattle.report_runs.specs.PrintPromises.Promises.{BeginsReport, PrintsReport}
use Rattle.hubs.specs.SetupsWords.Tapes.{IsCarriageTape}
use Rattle.hubs.specs.SetupsWords.Wiring.{Wiring}
use Rattle.machine.specs.Runs.{MachineLines}
use Rattle.wiring_text.specs.WiringText.{ReadsAs}
use Rattle.proof_reports.specs.Below.wiring_table.WiredFor.{WiredFor}

-- A chart that breaks no rule; as in every chart that is read, the numbers of its lines rise and its literals are print characters.
pub record IsSound (chart : Chart) : Type 0 where
  pub lawful : IsLawful chart
  pub rising : NumbersRise chart.lines chart.end
  pub literals : HaveLiteralTexts chart.lines

-- every setup that is wired for a sound chart by a plan of it prints the chart's reports
abbrev pub WiredSetupsPrintReports : Type 0
WiredSetupsPrintReports =
    (chart : Chart) (plan : Lists) (wiring : Wiring) → IsSound chart → ServesChart chart.lines plan →
    WiredFor chart.lines plan wiring → PrintsReport chart wiring

-- and begins them where not all totals fit
abbrev pub WiredSetupsBeginReports : Type 0
WiredSetupsBeginReports =
    (chart : Chart) (plan : Lists) (wiring : Wiring) → IsSound chart → ServesChart chart.lines plan →
    WiredFor chart.lines plan wiring → BeginsReport chart wiring

-- Wired as a wiring chart of such a setup says, the machine prints the chart's reports too: every setup that the text reads as does.
abbrev pub WrittenSetupsPrintReports : Type 0
WrittenSetupsPrintReports =
    (chart : Chart) (plan : Lists) (wiring : Wiring) (text : List ℕ) (read : Wiring) → IsSound chart → ServesChart chart.lines plan →
    WiredFor chart.lines plan wiring → ReadsAs text wiring → ReadsAs text read → PrintsReport chart read

-- and begins them where not all totals fit
abbrev pub WrittenSetupsBeginReports : Type 0
WrittenSetupsBeginReports =
    (chart : Chart) (plan : Lists) (wiring : Wiring) (text : List ℕ) (read : Wiring) → IsSound chart → ServesChart chart.lines plan →
    WiredFor chart.lines plan wiring → ReadsAs text wiring → ReadsAs text read → BeginsReport chart read

-- Any two setups that one wiring chart reads as, wired by hand or for a chart, print the same lines for every deck.
abbrev pub ReadSetupsPrintAlike : Type 0
ReadSetupsPrintAlike =
    (text : List ℕ) (one other : Wiring) (cards : List (List ℕ)) (lines : List PlacedLine) →
    ReadsAs text one → ReadsAs text other → IsCarriageTape one.tape → IsCarriageTape other.tape →
    MachineLines one cards lines → MachineLines other cards lines
