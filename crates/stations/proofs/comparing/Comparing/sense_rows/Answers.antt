use Rattle.std.proofs.Common.{refl, sym}
use Rattle.stations.proofs.RowsCollected.{all-rows, other-cycle}
use Rattle.net.specs.RowSets.{pictures_of}
use Rattle.stations.proofs.comparing.Comparing.sense_rows.Goals as goal

pub returns-in-Card : goal.returns-in-Card
returns-in-Card c =
    rw (c.in-Card.is, sym c.self.view_is)
    (all-rows c.args.pictures.now c.from.result.now c.from-in-Card.result.now c.self.inside.first c.self.inside.second c.add_rows.new.sets
    c.add_rows-in-Card.new.sets c.add_rows.array_long.0 c.add_rows-in-Card.array_long.1 (c.from.ensures.sets 1041 refl)
    (c.from-in-Card.ensures.sets 1071 refl) c.add_rows.ensures c.add_rows-in-Card.ensures)

pub returns-in_default : goal.returns-in_default
returns-in_default c = other-cycle c.args.cycle (pictures_of c.args.pictures.now) c.args.self.now c.in_default.not-Card
