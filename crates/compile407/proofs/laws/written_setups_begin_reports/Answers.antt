use Rattle.compile407.proofs.Headline.{written_setups_begin_reports}
use Rattle.compile407.proofs.laws.written_setups_begin_reports.Goals as goal

pub returns : goal.returns
returns c = written_setups_begin_reports
