use Rattle.print_unit.proofs.Lanes.{characters-masked}
use Rattle.print_unit.proofs.zero_control.of_sixty_four.Goals as goal

pub returns : goal.returns
returns c k = characters-masked c.args.line.now c.args.from c.args.first c.args.last k c.requires
