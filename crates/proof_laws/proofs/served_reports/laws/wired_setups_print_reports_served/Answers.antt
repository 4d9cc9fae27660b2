use Rattle.proof_laws.proofs.ServedReports.ServedReports.{wired_setups_print_served}
use Rattle.proof_laws.proofs.served_reports.laws.wired_setups_print_reports_served.Goals as goal

pub returns : goal.returns
returns c = wired_setups_print_served
