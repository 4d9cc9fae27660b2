use Rattle.std.proofs.Common.{◌≡◌, ◌<◌, ℕ, true, ◌⊎◌, drop}
use Rattle.machine_sets.specs.BitSets.Bits.{has_place}
use Rattle.machine_sets.specs.BitSets.Contacts.{AreOnlyCommons, is_any_contact}
use Rattle.machine_sets.proofs.bit_sets.contacts.commons_of.Given as goal

-- a place that a contact leads from is in, or one of a run to come leads from it, and no other is in
abbrev pub invariant-loop-run : goal.invariant-loop-run
invariant-loop-run l = record {
  all :
      (from to : ℕ) → from < 1984 → is_any_contact l.runs from to ≡ true
      → (has_place l.commons from ≡ true) ⊎ (is_any_contact (drop l.run-index l.runs) from to ≡ true);
  only : AreOnlyCommons l.runs l.commons;
}
