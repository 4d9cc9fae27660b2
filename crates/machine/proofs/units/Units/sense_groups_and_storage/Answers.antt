use Rattle.std.proofs.Common.{subst, sym}
use Rattle.net.specs.RowSets.{pictures_of}
use Rattle.machine.specs.Fields.{machine_in}
use Rattle.machine.specs.Machine.{MachineState}
use Rattle.machine.specs.Noted.{IsNoted}
use Rattle.machine.proofs.KeptLatches.{rows-kept}
use Rattle.machine.proofs.RestingRows.{rows-in_order, storage-rows}
use Rattle.machine.proofs.units.Units.sense_groups_and_storage.Goals as goal

pub sense_group_rows-requires : goal.sense_group_rows-requires
sense_group_rows-requires c = (subst IsNoted (sym c.self-inside.view_is) c.self.invariant).busy

pub invariant_of-self-inside : goal.invariant_of-self-inside
invariant_of-self-inside c =
    let units = c.self-inside.inside.0.0 in
    let pictures = pictures_of c.args.pictures.now in
    record {
      groups =
          rows-in_order units.groups c.sense_group_rows.new.groups c.args.cycle pictures c.sense_group_rows.ensures.sensed
          c.self-inside.invariant.groups;
      storage =
          storage-rows units.storage c.sense_storage_rows.new.storage c.args.cycle pictures c.sense_storage_rows.ensures
          c.self-inside.invariant.storage;
    }

pub invariant_of-self : goal.invariant_of-self
invariant_of-self c =
    let noted = subst IsNoted (sym c.self-inside.view_is) c.self.invariant in
    record {
      busy = c.sense_group_rows.ensures.busy;
      latches =
          rows-kept c.self-inside.inside.0.0.groups c.sense_group_rows.new.groups c.self-inside.inside.0.1.1.0 c.args.cycle
          (pictures_of c.args.pictures.now) c.sense_group_rows.ensures.sensed noted.latches;
    }

pub returns : goal.returns
returns c =
    let old : MachineState = machine_in c.self-inside.inside.0.0 in
    rw (← c.self.view_is, ← c.self-inside.view_is)
    (λ i. record old { groups = c.sense_group_rows.ensures.sensed i; storage = c.sense_storage_rows.ensures i })
