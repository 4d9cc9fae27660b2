use Rattle.std.proofs.Common.{◌*◌}
use Rattle.machine_sets.specs.BitSets.Rows.{GainsLed, is_in_words}
use Rattle.machine_sets.proofs.bit_sets.rows.Rows.join_own.Given as goal

abbrev pub invariant-loop-block : goal.invariant-loop-block
invariant-loop-block l = GainsLed l.self (is_in_words 0 (4 * l.block) l.fn.words) l.fn.words l.words
