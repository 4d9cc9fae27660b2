use Rattle.program_unit.proofs.LevelsInOrder.{levels-in_order}
use Rattle.program_unit.proofs.laws.levels_run_in_order.Goals as goal

pub returns : goal.returns
returns c = levels-in_order
