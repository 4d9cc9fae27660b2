use Rattle.explain_origins.specs.Pilots.{pickup_text}
use Rattle.explain_origins.proofs.Texts.{unled}
use Rattle.explain_origins.proofs.pilots.write_led.Goals as goal

pub returns-in_default : goal.returns-in_default
returns-in_default c =
    unled c.write_all.result c.args.hole c.args.card c.args.text.now.items c.write_pickup.new.text.items c.write_all.new.self.items
    (pickup_text c.args.pilot) c.in_default.is c.in_ok-write_pickup.ensures c.write_all.ensures.bytes
