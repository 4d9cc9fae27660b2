use Rattle.std.proofs.Common.{sym}
use Rattle.stations.proofs.RowsCollected.{no-rows}
use Rattle.stations.proofs.comparing.Comparing.sense_no_rows.Goals as goal

pub returns : goal.returns
returns c cycle pictures none =
    rw (sym c.self.view_is) (no-rows cycle pictures c.self.inside.first c.self.inside.second c.self.told.0 c.self.told.1 none)
