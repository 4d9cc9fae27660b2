use Rattle.std.proofs.Common.{◌≡◌, ◌∙◌, ◌||◌, ◌⊎◌, ◌<◌, ap, sym, inl, inr, true, false, Bool, refl}
use Rattle.net.specs.HubSets.{has_hub}
use Rattle.machine_served.proofs.ServedRuns.Dispatch.{group_at, last_at}
use Rattle.machine_served.proofs.ServedRuns.LastUnits.{closes_none_else}
use Rattle.machine_served.proofs.served_runs.units.close_unit.Goals as goal
use Rattle.machine_served.proofs.served_runs.units.close_unit.Goals.{else-unit-ge3-via-then-unit-ge3+else-unit-le34, else-unit-ge3-via-else-unit-ge3}
use Rattle.machine.specs.Fields.{machine_in}
use Rattle.machine_served.proofs.ServedUnits.Listed.{unit_at-number, units_in_order}
use Rattle.machine_served.specs.ServedUnits.AnyUnit.{AnyUnit, any_closes, any_number, unit_at}

pub close_group-requires-clause-numbered : goal.close_group-requires-clause-numbered
close_group-requires-clause-numbered c =
    sym (ap any_number
    (group_at (machine_in c.units.inside) c.units.invariant c.args.unit c.index-units-unit.result c.if-unit-ge3.true c.if-unit-le34.true))
    ∙ unit_at-number (machine_in c.units.inside) (units_in_order (machine_in c.units.inside) c.units.invariant) c.args.unit c.requires

pub returns-then-unit-le34 : goal.returns-then-unit-le34
returns-then-unit-le34 c hub =
    c.close_group.ensures c.args.cycle hub
    ∙ ap (λ (u : AnyUnit). has_hub c.args.contacts.now hub || any_closes u c.args.cycle c.args.point hub)
    (sym (ap (λ m. unit_at m c.args.unit) (sym c.units.view_is)
    ∙ group_at (machine_in c.units.inside) c.units.invariant c.args.unit c.index-units-unit.result c.if-unit-ge3.true c.if-unit-le34.true))

pub returns-then-unit-eq39 : goal.returns-then-unit-eq39
returns-then-unit-eq39 c hub =
    c.close.ensures c.args.cycle c.args.point hub
    ∙ ap (λ (u : AnyUnit). has_hub c.args.contacts.now hub || any_closes u c.args.cycle c.args.point hub)
    (sym (ap (λ m. unit_at m c.args.unit) (sym c.units.view_is)
    ∙ last_at (machine_in c.units.inside) c.units.invariant c.args.unit 0 c.if-unit-eq39.true))

pub returns-then-unit-eq40 : goal.returns-then-unit-eq40
returns-then-unit-eq40 c hub =
    c.close-then-unit-eq40.ensures c.args.point hub
    ∙ ap (λ (u : AnyUnit). has_hub c.args.contacts.now hub || any_closes u c.args.cycle c.args.point hub)
    (sym (ap (λ m. unit_at m c.args.unit) (sym c.units.view_is)
    ∙ last_at (machine_in c.units.inside) c.units.invariant c.args.unit 1 c.if-unit-eq40.true))

pub returns-then-unit-eq41 : goal.returns-then-unit-eq41
returns-then-unit-eq41 c hub =
    c.close-then-unit-eq41.ensures c.args.cycle hub
    ∙ ap (λ (u : AnyUnit). has_hub c.args.contacts.now hub || any_closes u c.args.cycle c.args.point hub)
    (sym (ap (λ m. unit_at m c.args.unit) (sym c.units.view_is)
    ∙ last_at (machine_in c.units.inside) c.units.invariant c.args.unit 2 c.if-unit-eq41.true))

or_nothing : (b : Bool) → b ≡ (b || false)
or_nothing true = refl
or_nothing false = refl

pub returns-else-unit-eq41 : goal.returns-else-unit-eq41
returns-else-unit-eq41 c hub =
    let else : (c.args.unit < 3) ⊎ (34 < c.args.unit) = elim c.else-unit-ge3.branch [
      | else-unit-ge3-via-then-unit-ge3+else-unit-le34 w ↦ inr w.if-unit-le34.false
      | else-unit-ge3-via-else-unit-ge3 w ↦ inl w.if-unit-ge3.false
    ] in
    or_nothing _
    ∙ ap (λ b. has_hub c.args.contacts.now hub || b)
    (sym (ap (λ m. any_closes (unit_at m c.args.unit) c.args.cycle c.args.point hub) (sym c.units.view_is)
    ∙ closes_none_else (machine_in c.units.inside) c.units.invariant c.args.unit c.args.cycle c.args.point hub c.requires.0 c.requires.1 else
    (λ is. absurd (c.if-unit-eq39.false is)) (λ is. absurd (c.if-unit-eq40.false is)) (λ is. absurd (c.if-unit-eq41.false is))))
