-- The floors put together: a machine that is wired for a chart places the lines of the chart's report.
use Rattle.report_definition.specs.Below.chart_rules.ValidCard.{IsValidCard}
use Rattle.report_definition.proofs.FollowedDecks.Running.{runs_follow_decks}
use Rattle.proof_reports.specs.Below.machine.Machine.{machine_at_start}
use Rattle.proof_reports.specs.PrintedReports.Content.{Waits}
use Rattle.proof_reports.specs.PrintedReports.Laws.{MachinesPrintReports}
use Rattle.proof_reports.proofs.PrintedReports.Instance.{machine_goes}
use Rattle.proof_reports.proofs.Below.machine.RunsInFeeds.{run-in-feeds}
use Rattle.proof_reports.proofs.PrintedReports.Runs.{goes_by_cards, lines-run, runner}

pub machine_prints_reports : MachinesPrintReports
machine_prints_reports chart plan wiring cards lines panel rise literals reads long fit run =
    runs_follow_decks (runner chart wiring (IsValidCard chart) (Waits chart plan wiring))
    (goes_by_cards chart wiring panel.lawful (machine_goes chart plan wiring panel rise literals)) cards lines reads long fit
    (lines-run chart wiring (IsValidCard chart) (Waits chart plan wiring) (machine_at_start wiring) cards lines (run-in-feeds wiring cards lines run))
