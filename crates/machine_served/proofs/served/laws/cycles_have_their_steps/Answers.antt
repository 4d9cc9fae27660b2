use Rattle.machine_served.proofs.ServedWords.Counts.{cycles_have_steps}
use Rattle.machine_served.proofs.served.laws.cycles_have_their_steps.Goals as goal

pub returns : goal.returns
returns g c = cycles_have_steps _
