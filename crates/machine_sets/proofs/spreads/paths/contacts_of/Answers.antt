use Rattle.std.proofs.Common.{refl, []}
use Rattle.machine_sets.proofs.SpreadsWords.PassLemmas.{contacts-more}
use Rattle.machine_sets.proofs.spreads.paths.contacts_of.Goals as goal

pub loop-run-preserved : goal.loop-run-preserved
loop-run-preserved c = record {
  passing = c.in_ok-add_contacts.ensures.passing;
  wired =
      contacts-more c.args.runs.now c.loop-run.run-index _ _ c.places_led_to-places.result [] c.loop-run.contacts.items
      c.add_contacts.new.contacts.items c.loop-run-test.true refl c.loop-run.invariant.wired c.in_ok-add_contacts.ensures.added;
}
