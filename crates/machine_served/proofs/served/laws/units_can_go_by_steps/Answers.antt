use Rattle.machine_served.proofs.ServedWords.SomeSteps.{units_go}
use Rattle.machine_served.proofs.served.laws.units_can_go_by_steps.Goals as goal

pub returns : goal.returns
returns g c = units_go _
