use Rattle.std.proofs.Common.{◌≡◌, ◌*◌, length}
use Rattle.machine_sets.specs.BitSets.Joins.{IsJoined}
use Rattle.machine_sets.proofs.bit_sets.joins.join.Given as goal

abbrev pub invariant-loop-block : goal.invariant-loop-block
invariant-loop-block l = record {
  long : length l.words ≡ 31;
  joined : IsJoined 0 (4 * l.block) l.fn.words l.row l.words;
}

abbrev pub invariant-loop-number : goal.invariant-loop-number
invariant-loop-number l = record {
  long : length l.words ≡ 31;
  joined : IsJoined 0 l.number l.fn.words l.row l.words;
}
