use Rattle.counters.proofs.Staying.{counters-stay}
use Rattle.counters.proofs.laws.groups_stay_groups.Goals as goal

pub returns : goal.returns
returns c = counters-stay
