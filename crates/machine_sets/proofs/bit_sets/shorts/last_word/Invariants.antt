use Rattle.std.proofs.Common.{◌<◌}
use Rattle.machine_sets.proofs.bit_sets.shorts.last_word.Given as goal

abbrev pub invariant-loop-number : goal.invariant-loop-number
invariant-loop-number l = l.last < 15
