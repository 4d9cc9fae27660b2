use Rattle.std.proofs.Common.{refl, subst, sym}
use Rattle.net.proofs.TellingLemmas.{ordered-orders}
use Rattle.net.specs.Orders.{ordered}
use Rattle.net.specs.declared.cycle.Cycle.TheVariants.{RunIn}
use Rattle.net.specs.declared.cycle.Point.TheVariants.{C}
use Rattle.machine.specs.Fields.{machine_in}
use Rattle.machine.specs.Noted.{IsNoted}
use Rattle.machine.proofs.ControlPoint.{control-sensed}
use Rattle.machine.proofs.KeptLatches.{sensed-kept}
use Rattle.machine.proofs.UnitOrder.{sensed-in_order, storage-sensed}
use Rattle.machine.proofs.units.Units.obey.Goals as goal

pub control_groups-busy-requires-clause-busy : goal.control_groups-busy-requires-clause-busy
control_groups-busy-requires-clause-busy c = (subst IsNoted (sym c.self-inside.view_is) c.self.invariant).busy

pub invariant_of-self-inside : goal.invariant_of-self-inside
invariant_of-self-inside c =
    let units = c.self-inside.inside.0.0 in
    let picture = ordered c.args.orders.now in
    let orders = ordered-orders c.args.orders.now in
    record {
      groups =
          sensed-in_order units.groups c.control_groups-busy.new.groups RunIn C picture
          (c.control_groups-busy.ensures.sensed RunIn picture orders.controls) c.self-inside.invariant.groups;
      storage =
          storage-sensed units.storage c.control_storage.new.storage RunIn C picture (c.control_storage.ensures RunIn picture orders.storage)
          c.self-inside.invariant.storage;
    }

pub invariant_of-self : goal.invariant_of-self
invariant_of-self c =
    let picture = ordered c.args.orders.now in
    let is = c.control_groups-busy.ensures.sensed RunIn picture (ordered-orders c.args.orders.now).controls in
    let noted = subst IsNoted (sym c.self-inside.view_is) c.self.invariant in
    record {
      busy = c.control_groups-busy.ensures.busy;
      latches =
          sensed-kept c.self-inside.inside.0.0.groups c.control_groups-busy.new.groups c.self-inside.inside.0.1.1.0 RunIn C picture is
          noted.latches;
    }

pub returns : goal.returns
returns c cycle picture are =
    rw (← c.self.view_is, ← c.self-inside.view_is)
    (control-sensed (machine_in c.self-inside.inside.0.0) _ cycle picture refl refl
    (c.control_groups-busy.ensures.sensed cycle picture are.controls) (c.control_storage.ensures cycle picture are.storage) refl refl refl
    refl refl (c.sense_controls.ensures cycle picture are.carriage) refl)
