use Rattle.machine_sets.proofs.SpreadsWords.EmptyLanes.{lanes-empty}
use Rattle.machine_sets.proofs.spreads.lanes.are_empty.Goals as goal

pub returns : goal.returns
returns c none k row low = lanes-empty c.args.rows k row c.requires none low
