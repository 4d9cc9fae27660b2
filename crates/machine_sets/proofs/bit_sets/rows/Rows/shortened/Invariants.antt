use Rattle.std.proofs.Common.{◌≡◌, length}
use Rattle.machine_sets.specs.BitSets.Shorts.{AreShorts}
use Rattle.machine_sets.proofs.bit_sets.rows.Rows.shortened.Given as goal

abbrev pub invariant-loop-from : goal.invariant-loop-from
invariant-loop-from l = record {
  long : length l.shorts.items ≡ l.from;
  are : AreShorts l.shorts.items l.self;
}
