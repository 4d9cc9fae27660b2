use Rattle.std.proofs.Common.{Bool, List, ◌||◌, ◌∙◌, ap, subst}
use Rattle.net.specs.HubSets.{HubSet, has_hub}
use Rattle.selectors.specs.Contacts.{carry_closes}
use Rattle.machine.specs.Fields.{AreInUnitOrder}
use Rattle.machine.specs.Machine.{MachineState, emits}
use Rattle.machine.specs.Steady.{closed_at, nines_of}
use Rattle.machine.specs.declared.units.Units.TheInside.{Inside}
use Rattle.machine.proofs.ClosedContacts.{closes-all}
use Rattle.machine.proofs.units.Units.keep_point.Goals as goal

pub returns : goal.returns
returns c =
    let machine = c.args.self.now in
    let cycle = c.args.cycle in
    let point = c.args.point in
    let view_is = ap (λ (units : Inside). units.all) c.self-inside.view_is ∙ c.self.view_is in
    let ordered = subst (λ (m : MachineState). AreInUnitOrder m.groups) view_is c.self-inside.invariant.groups in
    let nines = c.nines.ensures ∙ ap (λ (m : MachineState). nines_of m.groups) view_is in
    record {
      exits = λ hub. c.emit.ensures hub ∙ ap (λ (b : Bool). b || emits machine cycle point hub) (c.new-exits.ensures hub);
      contacts = λ hub.
          c.with_carries.ensures hub
          ∙ ap (λ (set : HubSet). has_hub set hub || carry_closes point c.nines.result hub) c.at.ensures
          ∙ ap (λ (ns : List Bool). has_hub (closed_at c.args.closed.now point) hub || carry_closes point ns hub) nines
          ∙ closes-all cycle c.args.closed.now machine point hub ordered c.requires;
    }
