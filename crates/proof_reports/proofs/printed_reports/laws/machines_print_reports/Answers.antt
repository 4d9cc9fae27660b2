use Rattle.proof_reports.proofs.PrintedReports.Reports.{machine_prints_reports}
use Rattle.proof_reports.proofs.printed_reports.laws.machines_print_reports.Goals as goal

pub returns : goal.returns
returns c = machine_prints_reports
