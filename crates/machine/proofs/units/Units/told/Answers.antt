use Rattle.std.proofs.Common.{refl, subst, ap, ◌∙◌}
use Rattle.hubs.proofs.HubLemmas.{if_found_more}
use Rattle.net.specs.HubSets.{has_hub}
use Rattle.net.specs.Orders.{AreToldBy}
use Rattle.net.specs.declared.cycle.Point.TheVariants.{C}
use Rattle.machine.specs.Fields.{AreInUnitOrder}
use Rattle.machine.specs.Machine.{MachineState, closes}
use Rattle.machine.specs.declared.units.Units.TheInside.{Inside}
use Rattle.machine.proofs.ClosedContacts.{closes-others}
use Rattle.machine.proofs.ControlPoint.{AreToldBy-same}
use Rattle.machine.proofs.units.Units.told.Goals as goal

pub returns-in-Some : goal.returns-in-Some
returns-in-Some c wiring is_net =
    let machine = c.args.self.now in
    let cycle = c.args.cycle in
    let view_is = ap (λ (units : Inside). units.all) c.self-inside.view_is ∙ c.self.view_is in
    let ordered = subst (λ (m : MachineState). AreInUnitOrder m.groups) view_is c.self-inside.invariant.groups in
    if_found_more (AreToldBy wiring cycle (has_hub c.in-Some.closed.now.steady)) (AreToldBy wiring cycle (closes machine cycle C)) c.told.result
    (c.told.ensures wiring is_net)
    (λ orders told.
    AreToldBy-same wiring cycle (has_hub c.in-Some.closed.now.steady) (closes machine cycle C) orders
    (λ hub. closes-others cycle c.in-Some.closed.now machine C hub ordered (c.requires _ c.in-Some.is) refl) told)

pub returns-in-None : goal.returns-in-None
returns-in-None c wiring is_net = c.told_by_wires.ensures wiring is_net (closes c.args.self.now c.args.cycle C)
