use Rattle.readback_panels.proofs.AmountZones.{total_zone_pushed}
use Rattle.readback_panels.proofs.ChainsGained.{totals_pushed}
use Rattle.readback_panels.proofs.totals.totals_of.Goals as goal
use Rattle.readback_panels.proofs.totals.totals_of.Goals.{in-Some+in_ok-push, in_default}

pub loop-place-preserved : goal.loop-place-preserved
loop-place-preserved c = elim c.match-total_of.branch [
  | in-Some+in_ok-push w ↦ rw w.totals-is (record {
    out = totals_pushed c.args.setup.now c.loop-place.totals.items w.push.new.self.items w.in-Some.total w.in_ok-push.ensures.items
        c.loop-place.invariant.out w.in-Some.ensures.out;
    zones = total_zone_pushed c.args.setup.now c.loop-place.totals.items w.push.new.self.items w.in-Some.total
        w.in_ok-push.ensures.items c.loop-place.invariant.zones w.in-Some.ensures.zone;
  })
  | in_default w ↦ rw w.totals-is c.loop-place.invariant
]
