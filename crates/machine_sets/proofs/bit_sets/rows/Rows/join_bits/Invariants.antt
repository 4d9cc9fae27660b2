use Rattle.std.proofs.Common.{◌≡◌, ℕ, true}
use Rattle.machine_sets.specs.BitSets.Bits.{is_bit}
use Rattle.machine_sets.specs.BitSets.Rows.{GainsLed}
use Rattle.machine_sets.proofs.BitSets.LedLemmas.{is_done}
use Rattle.machine_sets.proofs.bit_sets.rows.Rows.join_bits.Given as goal

abbrev pub invariant-loop-left : goal.invariant-loop-left
invariant-loop-left l = record {
  within : (j : ℕ) → is_bit l.left j ≡ true → is_bit l.bits j ≡ true;
  led : GainsLed l.self (is_done l.first l.bits l.left) l.fn.words l.words;
}

abbrev pub decreases-loop-left : goal.decreases-loop-left
decreases-loop-left l = l.left
