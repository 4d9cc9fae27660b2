use Rattle.report_definition.proofs.GroupLaws.{groups_whole}
use Rattle.report_definition.proofs.laws.groups_make_the_whole.Goals as goal

pub returns : goal.returns
returns c = groups_whole
