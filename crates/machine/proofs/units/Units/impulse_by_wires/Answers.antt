use Rattle.std.proofs.Common.{false, ◌≡◌, arith, subst, ap, ◌∙◌}
use Rattle.std.proofs.lemmas.Bool.Decides.{nat_tests}
use Rattle.net.specs.HubSets.{has_hub}
use Rattle.net.specs.declared.cycle.Point.TheVariants.{K}
use Rattle.machine.specs.Fields.{AreInUnitOrder}
use Rattle.machine.specs.Machine.{MachineState, closes}
use Rattle.machine.specs.Rest.{ComeToNoNines}
use Rattle.machine.specs.Steady.{nines_of}
use Rattle.machine.specs.declared.units.Units.TheInside.{Inside}
use Rattle.machine.proofs.Pictures.{no-carries}
use Rattle.machine.proofs.units.Units.impulse_by_wires.Goals as goal

pub returns-then-picture_by_wires : goal.returns-then-picture_by_wires
returns-then-picture_by_wires c is wiring is_net cycle =
    let picture = has_hub c.picture_by_wires.new.out in
    let none : c.comes_to_nines.result ≡ false = grind (arith, nat_tests, is) in
    let view_is = ap (λ (units : Inside). units.all) c.self-inside.view_is ∙ c.self.view_is in
    let ordered = subst (λ (m : MachineState). AreInUnitOrder m.groups) view_is c.self-inside.invariant.groups in
    c.picture_by_wires.ensures c.if-picture_by_wires.true wiring is_net (closes c.args.self.now cycle K)
    (no-carries c.args.self.now cycle K picture ordered
    (subst (λ (m : MachineState). ComeToNoNines picture (nines_of m.groups)) view_is (c.comes_to_nines.ensures none)))
