use Rattle.machine_sets.proofs.SpreadsWords.Touched.{ones-first}
use Rattle.machine_sets.proofs.spreads.blocks.first_blocks.Goals as goal

pub returns : goal.returns
returns c block inside = ones-first c.args.count block c.requires inside
