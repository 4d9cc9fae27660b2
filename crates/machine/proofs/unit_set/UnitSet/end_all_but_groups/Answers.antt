use Rattle.machine.proofs.UnitOrder.{storage-ended}
use Rattle.machine.proofs.unit_set.UnitSet.end_all_but_groups.Goals as goal

pub invariant_of-self : goal.invariant_of-self
invariant_of-self c = record {
  groups = c.self.invariant.groups;
  storage = storage-ended c.self.inside.storage c.end_all.new.units c.args.cycle c.end_all.ensures c.self.invariant.storage;
}

pub returns : goal.returns
returns c =
    let units = c.self.inside in
    rw (← c.self.view_is)
    (λ i. record {
      stations = units.stations;
      comparing = c.end_cycle.ensures i;
      groups = units.groups;
      storage = c.end_all.ensures i;
      pilots = c.end_cycle-2.ensures i;
      indicate = c.end_cycle-3.ensures i;
      splits = units.splits;
      emitters = units.emitters;
      wheels = c.end_cycle-4.ensures i;
      carriage = c.end_cycle-5.ensures i;
      program = c.end_cycle-6.ensures i;
    })
