use Rattle.machine_served.proofs.ServedUnits.ServedRuns.{served_runs_print}
use Rattle.machine_served.proofs.served_units.runs.served_runs_print_the_same.Goals as goal

pub returns : goal.returns
returns c = served_runs_print
