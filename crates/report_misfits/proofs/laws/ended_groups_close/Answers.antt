use Rattle.report_misfits.proofs.OpenTotals.{groups_close}
use Rattle.report_misfits.proofs.laws.ended_groups_close.Goals as goal

pub returns : goal.returns
returns c = groups_close
