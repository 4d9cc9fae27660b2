use Rattle.selectors.proofs.PickupLemmas.{pickups-row}
use Rattle.selectors.proofs.pilots.pickups.Goals as goal

pub returns : goal.returns
returns c = pickups-row c.row.result c.args.picture.now c.row.ensures.hubs
