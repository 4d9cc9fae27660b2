use Rattle.readback_panels.proofs.AmountZones.{zones_then}
use Rattle.readback_panels.proofs.reading.add_small_zones.Goals as goal

pub loop-wheel-preserved : goal.loop-wheel-preserved
loop-wheel-preserved c = record {
  gained = zones_then c.args.zones.now.items c.loop-wheel.zones.items c.add_zone_at.new.zones.items c.loop-wheel.invariant.gained
      c.in_ok-add_zone_at.ensures.gained;
  amounts = λ setup totals zones.
      c.in_ok-add_zone_at.ensures.amounts setup totals (c.loop-wheel.invariant.amounts setup totals zones);
}
