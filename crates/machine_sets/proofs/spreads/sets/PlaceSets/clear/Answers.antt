use Rattle.std.proofs.Common.{refl}
use Rattle.machine_sets.proofs.SpreadsWords.Touched.{none-touched}
use Rattle.machine_sets.proofs.spreads.sets.PlaceSets.clear.Goals as goal

pub returns : goal.returns
returns c place row = none-touched 0 c.clear_blocks.new.sets c.clear_blocks.ensures refl place row
