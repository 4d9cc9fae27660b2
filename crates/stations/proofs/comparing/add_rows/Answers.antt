use Rattle.stations.proofs.EntryLanes.{rows-joined}
use Rattle.stations.proofs.comparing.add_rows.Goals as goal

pub returns : goal.returns
returns c k row low = rows-joined c.args.sets.now c.args.others.now k row c.told-sets c.requires low
