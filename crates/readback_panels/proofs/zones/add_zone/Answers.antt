use Rattle.std.proofs.Common.{sym}
use Rattle.readback_panels.proofs.AmountZones.{zone_pushed}
use Rattle.readback_panels.proofs.zones.add_zone.Goals as goal

pub returns-clause-amounts : goal.returns-clause-amounts
returns-clause-amounts c =
    zone_pushed c.args.setup.now c.args.zones.now.items c.push.new.self.items c.zone_from-zone.result c.in_ok-push.ensures.items
    c.requires.amounts (c.zone_from-zone.ensures.amounts c.requires.second (sym c.if-not-has_jack.ensures))
