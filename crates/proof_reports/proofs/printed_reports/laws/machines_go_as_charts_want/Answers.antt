use Rattle.proof_reports.proofs.PrintedReports.Instance.{machines_go}
use Rattle.proof_reports.proofs.printed_reports.laws.machines_go_as_charts_want.Goals as goal

pub returns : goal.returns
returns c = machines_go
