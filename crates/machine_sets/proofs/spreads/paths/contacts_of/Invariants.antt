use Rattle.std.proofs.Common.{◌≡◌, ℕ, ◌&&◌, All, take}
use Rattle.machine_sets.specs.BitSets.Bits.{has_place}
use Rattle.machine_sets.specs.BitSets.Contacts.{is_any_contact}
use Rattle.machine_sets.specs.SpreadsWords.Links.{IsPassing, is_linked}
use Rattle.machine_sets.proofs.spreads.paths.contacts_of.Given as goal

-- the contacts of the runs so far are found
abbrev pub invariant-loop-run : goal.invariant-loop-run
invariant-loop-run l = record {
  passing : All IsPassing l.contacts.items;
  wired : (from to : ℕ) → is_linked l.contacts.items from to ≡ (is_any_contact (take l.run-index l.runs) from to && has_place l.places from);
}
