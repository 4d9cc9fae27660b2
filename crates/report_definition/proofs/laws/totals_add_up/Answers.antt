use Rattle.report_definition.proofs.GroupLaws.{totals_sum}
use Rattle.report_definition.proofs.laws.totals_add_up.Goals as goal

pub returns : goal.returns
returns c = totals_sum
