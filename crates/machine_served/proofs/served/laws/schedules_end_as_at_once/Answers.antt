use Rattle.machine_served.proofs.ServedWords.Kept.{schedules_end}
use Rattle.machine_served.proofs.served.laws.schedules_end_as_at_once.Goals as goal

pub returns : goal.returns
returns g c = schedules_end _
