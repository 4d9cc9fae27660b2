use Rattle.compile407.proofs.Headline.{wired_setups_print_reports}
use Rattle.compile407.proofs.laws.wired_setups_print_reports.Goals as goal

pub returns : goal.returns
returns c = wired_setups_print_reports
