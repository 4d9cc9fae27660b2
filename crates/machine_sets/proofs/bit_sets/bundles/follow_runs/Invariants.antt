use Rattle.std.proofs.Common.{◌≡◌, ℕ, ◌&&◌, ◌||◌, drop}
use Rattle.std.specs.Prelude.{nat_lt}
use Rattle.machine_sets.specs.BitSets.Bits.{has_place}
use Rattle.machine_sets.specs.BitSets.Bundles.{follows}
use Rattle.machine_sets.proofs.bit_sets.bundles.follow_runs.Given as goal

abbrev pub invariant-loop-run : goal.invariant-loop-run
invariant-loop-run l =
    (k : ℕ) → (has_place l.words k || (nat_lt k 1984 && follows l.new (drop l.run-index l.runs) k))
    ≡ (has_place l.fn.words k || (nat_lt k 1984 && follows l.new l.runs k))
