use Rattle.counters.proofs.Rings.{groups-round}
use Rattle.counters.proofs.laws.wired_groups_are_rings.Goals as goal

pub returns : goal.returns
returns c = groups-round
