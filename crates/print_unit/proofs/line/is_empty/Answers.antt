use Rattle.print_unit.proofs.Lanes.{none-received}
use Rattle.print_unit.proofs.line.is_empty.Goals as goal

pub returns : goal.returns
returns c empty k low high = none-received c.args.sets.now c.args.from k c.requires empty low high
