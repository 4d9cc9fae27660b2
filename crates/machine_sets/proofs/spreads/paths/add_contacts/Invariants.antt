use Rattle.std.proofs.Common.{All}
use Rattle.machine_sets.specs.BitSets.Contacts.{is_contact}
use Rattle.machine_sets.specs.SpreadsWords.Links.{IsPassing}
use Rattle.machine_sets.specs.SpreadsWords.Passing.{AddsContacts}
use Rattle.machine_sets.proofs.spreads.paths.add_contacts.Given as goal

-- the contacts so far are added
abbrev pub invariant-loop-k : goal.invariant-loop-k
invariant-loop-k l = record {
  passing : All IsPassing l.contacts.items;
  added : AddsContacts (is_contact (record l.run { count = l.k })) l.places l.fn.contacts.items l.contacts.items;
}
