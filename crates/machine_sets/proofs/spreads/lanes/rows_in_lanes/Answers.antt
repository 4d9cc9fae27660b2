use Rattle.machine_sets.proofs.SpreadsWords.ContactRuns.{chosen-lanes}
use Rattle.machine_sets.proofs.spreads.lanes.rows_in_lanes.Goals as goal

pub returns-clause-rows : goal.returns-clause-rows
returns-clause-rows c k row low = chosen-lanes c.args.bits c.args.rows k row low
