use Rattle.machine_sets.proofs.SpreadsWords.Touched.{touched-all}
use Rattle.machine_sets.proofs.spreads.paths.Paths.pass_behind.Goals as goal

pub invariant_of-sets : goal.invariant_of-sets
invariant_of-sets c = touched-all c.pass_all-gained.new.sets c.pass_all-gained.array_long
