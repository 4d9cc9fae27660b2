use Rattle.std.proofs.Common.{List, ap, subst, sym, ◌∙◌}
use Rattle.counters.specs.Counters.{Counter}
use Rattle.machine.specs.Fields.{machine_in}
use Rattle.machine.specs.Machine.{MachineState, ended}
use Rattle.machine.specs.Noted.{IsNoted}
use Rattle.machine.specs.Rest.{AreBusy}
use Rattle.machine.specs.Steady.{balance_latches}
use Rattle.machine.proofs.KeptLatches.{ended-kept}
use Rattle.machine.proofs.Rest.{ended-busy}
use Rattle.machine.proofs.UnitOrder.{ended-in_order}
use Rattle.machine.proofs.units.Units.end_cycle.Goals as goal

pub end_groups-requires : goal.end_groups-requires
end_groups-requires c = (subst IsNoted (sym c.self-inside.view_is) c.self.invariant).busy

pub keep_latches-requires : goal.keep_latches-requires
keep_latches-requires c =
    let noted = subst IsNoted (sym c.self-inside.view_is) c.self.invariant in
    ended-kept c.self-inside.inside.0.1.0 c.self-inside.inside.0.0.groups c.end_groups.new.groups c.self-inside.inside.0.1.1.0 c.args.cycle
    c.end_groups.ensures noted.busy noted.latches

pub invariant_of-self-inside : goal.invariant_of-self-inside
invariant_of-self-inside c = record {
  groups =
      ended-in_order c.self-inside.inside.0.0.groups c.end_groups.new.groups c.args.cycle c.end_groups.ensures c.self-inside.invariant.groups;
  storage = c.self-inside.invariant.storage;
}

pub invariant_of-self : goal.invariant_of-self
invariant_of-self c =
    let noted = subst IsNoted (sym c.self-inside.view_is) c.self.invariant in
    let groups = ap (λ (m : MachineState). m.groups) c.end_all_but_groups.ensures in
    record {
      busy = subst (AreBusy c.none-self-inside-inside.result) (sym (groups ∙ c.end_groups.ensures))
          (ended-busy c.self-inside.inside.0.0.groups c.args.cycle c.self-inside.inside.0.1.0 c.none-self-inside-inside.result noted.busy);
      latches = c.keep_latches.ensures ∙ ap balance_latches (sym groups);
    }

pub returns : goal.returns
returns c =
    rw (← c.self.view_is, ← c.self-inside.view_is)
    (c.end_all_but_groups.ensures
    ∙ ap (λ (groups : List Counter). record (ended (machine_in c.self-inside.inside.0.0) c.args.cycle) { groups = groups })
    c.end_groups.ensures)
