use Rattle.machine_served.proofs.ServedWords.FewRounds.{rounds_are_few}
use Rattle.machine_served.proofs.served.laws.rounds_are_few.Goals as goal

pub returns : goal.returns
returns g c = rounds_are_few _
