use Rattle.std.proofs.Common.{◌≡◌, drop}
use Rattle.machine_sets.specs.BitSets.Contacts.{is_any_contact}
use Rattle.machine_sets.proofs.bit_sets.bundles.is_in_runs.Given as goal

abbrev pub invariant-loop-run : goal.invariant-loop-run
invariant-loop-run l = is_any_contact (drop l.run-index l.runs) l.from l.to ≡ is_any_contact l.runs l.from l.to
