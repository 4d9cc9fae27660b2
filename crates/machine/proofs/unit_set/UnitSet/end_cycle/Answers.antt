use Rattle.std.proofs.Common.{List, ap, subst, ◌∙◌}
use Rattle.counters.specs.Counters.{Counter}
use Rattle.machine.specs.Fields.{IsInUnitOrder, machine_in}
use Rattle.machine.specs.Machine.{ended}
use Rattle.machine.proofs.UnitOrder.{ended-in_order}
use Rattle.machine.proofs.unit_set.UnitSet.end_cycle.Goals as goal

pub invariant_of-self : goal.invariant_of-self
invariant_of-self c = record {
  groups = ended-in_order c.self.inside.groups c.end_all.new.units c.args.cycle c.end_all.ensures c.self.invariant.groups;
  storage = c.self.invariant.storage;
}

pub returns-clause-ended : goal.returns-clause-ended
returns-clause-ended c =
    rw (← c.self.view_is)
    (c.end_all_but_groups.ensures
    ∙ ap (λ (groups : List Counter). record (ended (machine_in c.self.inside) c.args.cycle) { groups = groups }) c.end_all.ensures)

pub returns-clause-ordered : goal.returns-clause-ordered
returns-clause-ordered c = subst IsInUnitOrder c.self.view_is c.self.invariant
