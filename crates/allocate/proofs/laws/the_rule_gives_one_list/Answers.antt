use Rattle.allocate.proofs.OneList.{one_list}
use Rattle.allocate.proofs.laws.the_rule_gives_one_list.Goals as goal

pub returns : goal.returns
returns c = one_list
