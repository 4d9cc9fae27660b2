use Rattle.std.proofs.Common.{◌≡◌, ℕ, ◌||◌, length}
use Rattle.machine_sets.specs.BitSets.Bits.{has_place}
use Rattle.machine_sets.proofs.BitSets.PlaceLemmas.{is_in_before}
use Rattle.machine_sets.proofs.bit_sets.places.put_run.Given as goal

abbrev pub invariant-loop-number : goal.invariant-loop-number
invariant-loop-number l = record {
  long : length l.words ≡ 31;
  gained : (k : ℕ) → has_place l.words k ≡ (has_place l.fn.words k || is_in_before l.number l.first l.bits k);
}
