use Rattle.std.proofs.Common.{sym}
use Rattle.machine_sets.proofs.SpreadsWords.Touched.{none-touched}
use Rattle.machine_sets.proofs.spreads.sets.PlaceSets.are_empty.Goals as goal

pub returns : goal.returns
returns c none place row =
    rw (sym c.self.view_is) (none-touched c.self.inside.touched c.self.inside.sets c.self.invariant none place row)
