use Rattle.std.proofs.Common.{◌≡◌, ℕ, ◌<◌, true}
use Rattle.machine_sets.specs.BitSets.Contacts.{is_any_contact}
use Rattle.machine_sets.specs.BitSets.Rows.{leads}
use Rattle.machine_sets.proofs.bit_sets.rows.Rows.is_covered.Given as goal

abbrev pub invariant-loop-to : goal.invariant-loop-to
invariant-loop-to l =
    (to : ℕ) → to < l.to → leads l.self l.from to ≡ true → is_any_contact l.runs l.from to ≡ true
