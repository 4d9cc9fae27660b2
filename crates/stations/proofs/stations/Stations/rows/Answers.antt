use Rattle.std.proofs.Common.{refl}
use Rattle.stations.proofs.stations.Stations.rows.Goals as goal

pub returns : goal.returns
returns c = rw (← c.self.view_is) (record { two = refl; first = c.rows_at.ensures; second = c.rows_at-2.ensures })
