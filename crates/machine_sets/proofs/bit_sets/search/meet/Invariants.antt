use Rattle.std.proofs.Common.{◌≡◌, ◌≢◌, ◌<◌, ℕ}
use Rattle.std.specs.Prelude.{slice_index_or}
use Rattle.std.specs.Int.Bits.{bit_and}
use Rattle.machine_sets.specs.BitSets.Contacts.{ShareAPlace}
use Rattle.machine_sets.proofs.bit_sets.search.meet.Given as goal

-- while no bit was found, the words so far have none in common, and else the sets have a place in common
abbrev pub invariant-loop-number : goal.invariant-loop-number
invariant-loop-number l = record {
  none : l.both ≡ 0 → (k : ℕ) → k < l.number → bit_and (slice_index_or l.one k 0) (slice_index_or l.other k 0) ≡ 0;
  some : l.both ≢ 0 → ShareAPlace l.one l.other;
}
