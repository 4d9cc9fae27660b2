use Rattle.machine_sets.proofs.SpreadsWords.JoinedSets.{empty-sets}
use Rattle.machine_sets.proofs.SpreadsWords.Touched.{touched-new}
use Rattle.machine_sets.proofs.spreads.sets.PlaceSets.new.Goals as goal

pub returns : goal.returns
returns c place row = empty-sets 1936 place row

pub invariant_of-result : goal.invariant_of-result
invariant_of-result c = touched-new
