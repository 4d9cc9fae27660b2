use Rattle.std.proofs.Common.{All, ◌-◌}
use Rattle.machine_sets.specs.BitSets.Contacts.{is_contact}
use Rattle.machine_sets.specs.SpreadsWords.Links.{IsEight}
use Rattle.machine_sets.specs.SpreadsWords.Passing.{AddsEights}
use Rattle.machine_sets.proofs.SpreadsWords.Eights.{front_of}
use Rattle.machine_sets.proofs.spreads.contact_runs.add_eights.Given as goal

-- the eights of the contacts so far are added
abbrev pub invariant-loop-from : goal.invariant-loop-from
invariant-loop-from l = record {
  each : All IsEight l.eights.items;
  added : AddsEights (is_contact (front_of l.run l.from)) l.contacts l.fn.eights.items l.eights.items;
}

abbrev pub decreases-loop-from : goal.decreases-loop-from
decreases-loop-from l = l.run.count - l.from
