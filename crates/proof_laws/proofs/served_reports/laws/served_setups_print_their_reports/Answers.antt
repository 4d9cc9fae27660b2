use Rattle.proof_laws.proofs.ServedReports.ServedReports.{served_setups_print}
use Rattle.proof_laws.proofs.served_reports.laws.served_setups_print_their_reports.Goals as goal

pub returns : goal.returns
returns c = served_setups_print
