use Rattle.std.proofs.Common.{refl, sym, arith}
use Rattle.net.specs.RowSets.{pictures_of}
use Rattle.print_unit.proofs.WheelRows.{receives-picture, state-rows}
use Rattle.print_unit.proofs.wheels.Wheels.sense_rows.Goals as goal

pub receive-requires : goal.receive-requires
receive-requires c = let long = c.from.ensures.long 1799 refl in omega (arith, long)

pub returns : goal.returns
returns c =
    rw (sym c.self.view_is)
    (state-rows c.self.inside c.receive.new.sets c.args._cycle (pictures_of c.args.pictures.now)
    (λ k below at.
    receives-picture c.args.pictures.now c.from.result.now c.self.inside.sets c.receive.new.sets k at below (c.from.ensures.sets 1799 refl)
    c.receive.ensures.received))
