use Rattle.machine_served.proofs.ServedWords.Progress.{some_unit_steps}
use Rattle.machine_served.proofs.served.laws.some_unit_can_step.Goals as goal

pub returns : goal.returns
returns g c = some_unit_steps _
