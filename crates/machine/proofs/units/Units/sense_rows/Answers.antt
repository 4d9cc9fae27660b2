use Rattle.std.proofs.Common.{◌∙◌, ap}
use Rattle.net.specs.RowSets.{pictures_of}
use Rattle.machine.specs.Fields.{machine_in}
use Rattle.machine.specs.declared.units.Units.TheInside as inside
use Rattle.machine.specs.Machine.{MachineState}
use Rattle.machine.proofs.AllRows.{units-sensed}
use Rattle.machine.proofs.units.Units.sense_rows.Goals as goal

pub returns : goal.returns
returns c =
    let mid : MachineState = machine_in c.self-inside.inside.0.0 in
    (λ i. record mid { comparing = c.sense_rows.ensures i; pilots = c.sense_rows-2.ensures i; wheels = c.sense_rows-3.ensures i })
    ∙ units-sensed c.args.cycle (pictures_of c.args.pictures.now) c.args.self.now mid
    (ap (λ (units : inside.Inside). units.all) c.self-inside.view_is ∙ c.self.view_is ∙ c.sense_groups_and_storage.ensures)
