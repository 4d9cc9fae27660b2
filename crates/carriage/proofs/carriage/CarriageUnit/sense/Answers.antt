use Rattle.net.specs.HubSets.{has_hub}
use Rattle.carriage.proofs.carriage.CarriageUnit.sense.Goals as goal

pub returns-in-C : goal.returns-in-C
returns-in-C c = rw c.in-C.is (c.sense_controls.ensures c.args._cycle (has_hub c.args.picture.now) c.row.ensures.hubs)
