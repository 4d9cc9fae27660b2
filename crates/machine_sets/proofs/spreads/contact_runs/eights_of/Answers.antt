use Rattle.std.proofs.Common.{List, refl, subst, sym, []}
use Rattle.machine_sets.specs.declared.bit_sets.contacts.Run.{Run}
use Rattle.machine_sets.specs.SpreadsWords.Links.{AreEights}
use Rattle.machine_sets.proofs.SpreadsWords.Eights.{AreEights-more, AreEights-none}
use Rattle.machine_sets.proofs.spreads.contact_runs.eights_of.Goals as goal

pub loop-run-init : goal.loop-run-init
loop-run-init c =
    subst (λ (eights : List Run). AreEights [] c.args.contacts.now eights) (sym c.new-eights.ensures.items) (AreEights-none c.args.contacts.now)

pub loop-run-preserved : goal.loop-run-preserved
loop-run-preserved c =
    AreEights-more c.args.runs.now c.loop-run.run-index _ _ c.args.contacts.now c.loop-run.eights.items c.add_eights.new.eights.items
    c.loop-run-test.true refl c.loop-run.invariant c.in_ok-add_eights.ensures.each c.in_ok-add_eights.ensures.added
