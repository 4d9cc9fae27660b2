use Rattle.machine_served.proofs.ServedUnits.ServedRuns.{served_cycles_are}
use Rattle.machine_served.proofs.served_units.runs.served_cycles_are_cycles.Goals as goal

pub returns : goal.returns
returns c = served_cycles_are
