use Rattle.machine_served.proofs.ServedWords.FewRounds.{rounds_are_steps}
use Rattle.machine_served.proofs.served.laws.rounds_are_steps.Goals as goal

pub returns : goal.returns
returns g c = rounds_are_steps _
