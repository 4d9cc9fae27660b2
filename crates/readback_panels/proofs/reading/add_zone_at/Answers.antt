use Rattle.readback_panels.proofs.AmountZones.{zone_pushed, zones_pushed}
use Rattle.readback_panels.proofs.reading.add_zone_at.Goals as goal
use Rattle.readback_panels.proofs.reading.add_zone_at.Goals.{then-total-wheel+then-not-contains+in_ok-push, else-total-wheel}

pub loop-total-preserved : goal.loop-total-preserved
loop-total-preserved c = elim c.if-total-wheel.branch [
  | then-total-wheel+then-not-contains+in_ok-push w ↦ rw w.zones-is (record {
    gained = zones_pushed c.args.zones.now.items c.loop-total.zones.items w.push.new.self.items _ c.loop-total.invariant.gained
        w.in_ok-push.ensures.items;
    amounts = λ setup totals zones.
        zone_pushed setup c.loop-total.zones.items w.push.new.self.items _ w.in_ok-push.ensures.items
        (c.loop-total.invariant.amounts setup totals zones) (totals c.loop-total.total-index _ c.loop-total-test.true);
  })
  | else-total-wheel w ↦ rw w.zones-is c.loop-total.invariant
]
