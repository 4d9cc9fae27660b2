use Rattle.std.proofs.Common.{◌≡◌, ℕ, ◌+◌, ◌-◌, ◌<◌, ◌≤◌, true}
use Rattle.machine_sets.specs.BitSets.Rows.{leads}
use Rattle.machine_sets.proofs.bit_sets.rows.Rows.side_by_side.Given as goal

abbrev pub invariant-loop-count : goal.invariant-loop-count
invariant-loop-count l = record {
  low : l.count ≤ 128;
  beside : (k : ℕ) → k < l.count → leads l.self (l.from + k) (l.to + k) ≡ true;
}

abbrev pub decreases-loop-count : goal.decreases-loop-count
decreases-loop-count l = 128 - l.count
