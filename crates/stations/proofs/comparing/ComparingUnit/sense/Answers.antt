use Rattle.std.proofs.Common.{sym}
use Rattle.stations.proofs.RowsCollected.{row-sensed}
use Rattle.stations.proofs.comparing.ComparingUnit.sense.Goals as goal

pub returns-in-Card-Row : goal.returns-in-Card-Row
returns-in-Card-Row c =
    rw (c.in-Card-Row.is-0, c.in-Card-Row.is-1, sym c.self.view_is)
    (row-sensed c.in-Card-Row.row c.place-place.result c.row.result c.row-in-Card-Row.result c.args.picture.now c.self.inside.first
    c.self.inside.second c.add_row.new.sets c.add_row-in-Card-Row.new.sets c.add_row.array_long.0 c.add_row-in-Card-Row.array_long.1
    c.place-place.ensures.value c.row.ensures.hubs c.row-in-Card-Row.ensures.hubs c.add_row.ensures c.add_row-in-Card-Row.ensures)
