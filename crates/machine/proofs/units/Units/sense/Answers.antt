use Rattle.std.proofs.Common.{subst, sym}
use Rattle.net.specs.HubSets.{has_hub}
use Rattle.machine.specs.Noted.{IsNoted}
use Rattle.machine.proofs.KeptLatches.{sensed-kept}
use Rattle.machine.proofs.UnitOrder.{sensed-in_order, storage-sensed}
use Rattle.machine.proofs.units.Units.sense.Goals as goal

pub sense_groups-busy-requires-clause-busy : goal.sense_groups-busy-requires-clause-busy
sense_groups-busy-requires-clause-busy c = (subst IsNoted (sym c.self-inside.view_is) c.self.invariant).busy

pub invariant_of-self-inside : goal.invariant_of-self-inside
invariant_of-self-inside c =
    let units = c.self-inside.inside.0.0 in
    let picture = has_hub c.args.picture.now in
    record {
      groups =
          sensed-in_order units.groups c.sense_groups-busy.new.groups c.args.cycle c.args.point picture c.sense_groups-busy.ensures.sensed
          c.self-inside.invariant.groups;
      storage =
          storage-sensed units.storage c.sense_storage.new.storage c.args.cycle c.args.point picture c.sense_storage.ensures
          c.self-inside.invariant.storage;
    }

pub invariant_of-self : goal.invariant_of-self
invariant_of-self c =
    let noted = subst IsNoted (sym c.self-inside.view_is) c.self.invariant in
    record {
      busy = c.sense_groups-busy.ensures.busy;
      latches =
          sensed-kept c.self-inside.inside.0.0.groups c.sense_groups-busy.new.groups c.self-inside.inside.0.1.1.0 c.args.cycle c.args.point
          (has_hub c.args.picture.now) c.sense_groups-busy.ensures.sensed noted.latches;
    }

pub returns : goal.returns
returns c =
    let units = c.self-inside.inside.0.0 in
    rw (← c.self.view_is, ← c.self-inside.view_is)
    (λ i. record {
      stations = units.stations;
      comparing = c.sense.ensures i;
      groups = c.sense_groups-busy.ensures.sensed i;
      storage = c.sense_storage.ensures i;
      pilots = c.sense-2.ensures i;
      indicate = units.indicate;
      splits = units.splits;
      emitters = units.emitters;
      wheels = c.sense-3.ensures i;
      carriage = c.sense-4.ensures i;
      program = c.sense-5.ensures i;
    })
