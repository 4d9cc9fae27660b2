use Rattle.report_misfits.proofs.OpenTotals.{groups_tell}
use Rattle.report_misfits.proofs.laws.ended_groups_tell_misfits.Goals as goal

pub returns : goal.returns
returns c = groups_tell
