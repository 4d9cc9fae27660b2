use Rattle.proof_reports.proofs.PrintedReports.Begun.{machines_begin_reports}
use Rattle.proof_reports.proofs.printed_reports.laws.machines_begin_reports.Goals as goal

pub returns : goal.returns
returns c = machines_begin_reports
