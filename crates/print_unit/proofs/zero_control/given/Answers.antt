use Rattle.print_unit.proofs.Carry.{given-by_sum}
use Rattle.print_unit.proofs.zero_control.given.Goals as goal

pub returns : goal.returns
returns c = given-by_sum c.args.link c.args.figures
