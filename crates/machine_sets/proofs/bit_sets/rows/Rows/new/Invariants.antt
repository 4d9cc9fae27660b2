use Rattle.std.proofs.Common.{◌≡◌, replicate}
use Rattle.machine_sets.proofs.bit_sets.rows.Rows.new.Given as goal

abbrev pub invariant-loop-exit : goal.invariant-loop-exit
invariant-loop-exit l = l.rows.items ≡ replicate l._exit (replicate 15 0)
