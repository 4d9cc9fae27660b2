use Rattle.machine_served.proofs.ServedWords.AtOnce.{units_act}
use Rattle.machine_served.proofs.served.laws.units_can_act_at_once.Goals as goal

pub returns : goal.returns
returns g c = units_act _
