use Rattle.machine_sets.proofs.BitSets.BundleLemmas.{AreCoveredBelow}
use Rattle.machine_sets.proofs.bit_sets.rows.Rows.set_apart.Given as goal

abbrev pub invariant-loop-from : goal.invariant-loop-from
invariant-loop-from l = AreCoveredBelow l.from l.apart l.runs l.self
