use Rattle.std.proofs.Common.{sym, ◌∙◌}
use Rattle.machine_sets.proofs.SpreadsWords.Eights.{eights-more, eights-past}
use Rattle.machine_sets.proofs.spreads.contact_runs.add_eights.Goals as goal

pub loop-from-preserved-then-is_led_to : goal.loop-from-preserved-then-is_led_to
loop-from-preserved-then-is_led_to c =
    let more =
    eights-more c.args.run c.loop-from.from c.args.contacts.now c.args.eights.now.items c.loop-from.eights.items c.push.new.self.items
    c.eight_of.result c.loop-from-test.true c.requires.room c.eight_of.ensures c.in_ok-push.ensures.items c.loop-from.invariant.each
    c.loop-from.invariant.added in
    record { each = more.0; added = more.1 }

pub loop-from-preserved : goal.loop-from-preserved
loop-from-preserved c = record {
  each = c.loop-from.invariant.each;
  added =
      eights-past c.args.run c.loop-from.from c.args.contacts.now c.args.eights.now.items c.loop-from.eights.items c.loop-from-test.true
      (sym c.is_led_to.ensures ∙ c.if-is_led_to.false) c.loop-from.invariant.added;
}
