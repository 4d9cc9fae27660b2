use Rattle.std.proofs.Common.{Bool, List, ◌≡◌, ◌||◌, ◌⊎◌, ◌∙◌, false, inl, inr, ap, refl, subst}
use Rattle.card_code.specs.declared.row.Row.{Row as CardRow}
use Rattle.net.specs.Cycles.{is_closing}
use Rattle.net.specs.HubSets.{HubSet, has_hub}
use Rattle.net.specs.Impulsed.{IsPicture}
use Rattle.net.specs.declared.cycle.Point.{Point}
use Rattle.net.specs.declared.cycle.Point.TheVariants.{C, Row}
use Rattle.selectors.specs.Contacts.{carry_closes}
use Rattle.machine.specs.Fields.{AreInUnitOrder}
use Rattle.machine.specs.Machine.{MachineState, closes}
use Rattle.machine.specs.Rest.{ComeToNoNines}
use Rattle.machine.specs.Steady.{closed_at, nines_of}
use Rattle.machine.specs.declared.units.Units.TheInside.{Inside}
use Rattle.machine.proofs.ClosedContacts.{closes-all, closes-others}
use Rattle.machine.proofs.Pictures.{IsPicture-same, picture-idle}
use Rattle.machine.proofs.units.Units.impulse.Goals as goal

before_end : (point : Point) → (point ≡ C) ⊎ ((row : CardRow) × (point ≡ Row row)) → is_closing point ≡ false
before_end point (inl is) = ap is_closing is
before_end point (inr is) = ap is_closing is.1

pub returns-in-C : goal.returns-in-C
returns-in-C c = λ wiring is_net.
    let machine = c.args.self.now in
    let cycle = c.args.cycle in
    let point = c.args.point in
    let view_is = ap (λ (units : Inside). units.all) c.self-inside.view_is ∙ c.self.view_is in
    let ordered = subst (λ (m : MachineState). AreInUnitOrder m.groups) view_is c.self-inside.invariant.groups in
    IsPicture-same wiring (has_hub c.args.exits.now) (has_hub c.args.exits.now) (has_hub c.at.result.now) (closes machine cycle point)
    (has_hub c.picture.new.out) (λ hub. refl)
    (λ hub.
    ap (λ (set : HubSet). has_hub set hub) c.at.ensures
    ∙ closes-others cycle c.args.closed.now machine point hub ordered c.requires (before_end point c.in-C.is))
    (c.picture.ensures wiring is_net)

pub returns-then-comes_to_nines : goal.returns-then-comes_to_nines
returns-then-comes_to_nines c = λ wiring is_net.
    let machine = c.args.self.now in
    let cycle = c.args.cycle in
    let point = c.args.point in
    let view_is = ap (λ (units : Inside). units.all) c.self-inside.view_is ∙ c.self.view_is in
    let ordered = subst (λ (m : MachineState). AreInUnitOrder m.groups) view_is c.self-inside.invariant.groups in
    let nines = c.nines.ensures ∙ ap (λ (m : MachineState). nines_of m.groups) view_is in
    IsPicture-same wiring (has_hub c.args.exits.now) (has_hub c.args.exits.now) (has_hub c.with_carries-contacts.result)
    (closes machine cycle point) (has_hub c.picture-then-comes_to_nines.new.out) (λ hub. refl)
    (λ hub.
    c.with_carries-contacts.ensures hub
    ∙ ap (λ (set : HubSet). has_hub set hub || carry_closes point c.nines.result hub) c.at-then-comes_to_nines.ensures
    ∙ ap (λ (ns : List Bool). has_hub (closed_at c.args.closed.now point) hub || carry_closes point ns hub) nines
    ∙ closes-all cycle c.args.closed.now machine point hub ordered c.requires)
    (c.picture-then-comes_to_nines.ensures wiring is_net)

pub returns-else-comes_to_nines : goal.returns-else-comes_to_nines
returns-else-comes_to_nines c = λ wiring is_net.
    let machine = c.args.self.now in
    let view_is = ap (λ (units : Inside). units.all) c.self-inside.view_is ∙ c.self.view_is in
    let ordered = subst (λ (m : MachineState). AreInUnitOrder m.groups) view_is c.self-inside.invariant.groups in
    let idle =
    subst (λ (m : MachineState). ComeToNoNines (has_hub c.picture.new.out) (nines_of m.groups)) view_is
    (c.comes_to_nines.ensures c.if-comes_to_nines.false) in
    picture-idle wiring c.args.cycle c.args.closed.now machine c.args.point (has_hub c.args.exits.now) (has_hub c.picture.new.out) ordered
    c.requires idle
    (subst (λ (set : HubSet). IsPicture wiring (has_hub c.args.exits.now) (has_hub set) (has_hub c.picture.new.out)) c.at.ensures
    (c.picture.ensures wiring is_net))
