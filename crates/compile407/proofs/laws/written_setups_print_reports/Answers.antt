use Rattle.compile407.proofs.Headline.{written_setups_print_reports}
use Rattle.compile407.proofs.laws.written_setups_print_reports.Goals as goal

pub returns : goal.returns
returns c = written_setups_print_reports
