use Rattle.std.proofs.Common.{◌*◌}
use Rattle.machine_sets.proofs.SpreadsWords.Cleared.{AreCleared}
use Rattle.machine_sets.proofs.spreads.sets.clear_sixteen.Given as goal

-- the sets so far are cleared
abbrev pub invariant-loop-k : goal.invariant-loop-k
invariant-loop-k l = AreCleared l.k (16 * l.sixteen) l.fn.sets l.sets
