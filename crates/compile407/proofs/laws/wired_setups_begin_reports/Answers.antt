use Rattle.compile407.proofs.Headline.{wired_setups_begin_reports}
use Rattle.compile407.proofs.laws.wired_setups_begin_reports.Goals as goal

pub returns : goal.returns
returns c = wired_setups_begin_reports
