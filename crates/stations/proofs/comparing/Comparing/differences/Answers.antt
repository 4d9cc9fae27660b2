use Rattle.stations.proofs.EntryLanes.{sets-differ}
use Rattle.stations.proofs.comparing.Comparing.differences.Goals as goal

pub returns : goal.returns
returns c k = rw (← c.self.view_is) (sets-differ c.self.inside.first c.self.inside.second k c.self.told.0 c.self.told.1)
