use Rattle.std.proofs.Common.{◌≡◌, ◌∙◌, ◌||◌, ap, sym, arith, false, Bool, refl, true}
use Rattle.net.specs.HubSets.{has_hub}
use Rattle.machine_served.proofs.ServedRuns.Dispatch.{group_at, last_at, storage_at}
use Rattle.machine_served.proofs.ServedRuns.LastUnits.{emits_none}
use Rattle.machine_served.proofs.served_runs.units.emit_unit.Goals as goal
use Rattle.machine.specs.Fields.{machine_in}
use Rattle.machine_served.specs.ServedUnits.AnyUnit.{AnyUnit, any_emits, unit_at}

pub returns-then-unit-le1 : goal.returns-then-unit-le1
returns-then-unit-le1 c hub =
    let is : c.args.unit ≡ 1 = omega (arith, c.requires.0) in
    c.emit.ensures hub
    ∙ ap (λ (u : AnyUnit). has_hub c.args.exits.now hub || any_emits u c.args.cycle c.args.point hub)
    (sym (ap (λ m. unit_at m c.args.unit) (sym c.units.view_is) ∙ ap (unit_at (machine_in c.units.inside)) is))

pub returns-then-unit-le34 : goal.returns-then-unit-le34
returns-then-unit-le34 c hub =
    c.emit-then-unit-le34.ensures hub
    ∙ ap (λ (u : AnyUnit). has_hub c.args.exits.now hub || any_emits u c.args.cycle c.args.point hub)
    (sym (ap (λ m. unit_at m c.args.unit) (sym c.units.view_is)
    ∙ group_at (machine_in c.units.inside) c.units.invariant c.args.unit c.index-units-unit.result (omega arith) (omega arith)))

pub returns-then-unit-le38 : goal.returns-then-unit-le38
returns-then-unit-le38 c hub =
    c.emit-then-unit-le38.ensures hub
    ∙ ap (λ (u : AnyUnit). has_hub c.args.exits.now hub || any_emits u c.args.cycle c.args.point hub)
    (sym (ap (λ m. unit_at m c.args.unit) (sym c.units.view_is)
    ∙ storage_at (machine_in c.units.inside) c.units.invariant c.args.unit c.index-units-unit-then-unit-le38.result (omega arith) (omega arith)))

pub returns-then-unit-eq42 : goal.returns-then-unit-eq42
returns-then-unit-eq42 c hub =
    c.emit-then-unit-eq42.ensures hub
    ∙ ap (λ (u : AnyUnit). has_hub c.args.exits.now hub || any_emits u c.args.cycle c.args.point hub)
    (sym (ap (λ m. unit_at m c.args.unit) (sym c.units.view_is)
    ∙ last_at (machine_in c.units.inside) c.units.invariant c.args.unit 3 (omega arith)))

pub returns-then-unit-eq45 : goal.returns-then-unit-eq45
returns-then-unit-eq45 c hub =
    c.emit-then-unit-eq45.ensures hub
    ∙ ap (λ (u : AnyUnit). has_hub c.args.exits.now hub || any_emits u c.args.cycle c.args.point hub)
    (sym (ap (λ m. unit_at m c.args.unit) (sym c.units.view_is)
    ∙ last_at (machine_in c.units.inside) c.units.invariant c.args.unit 6 (omega arith)))

or_nothing : (b : Bool) → b ≡ (b || false)
or_nothing true = refl
or_nothing false = refl

pub returns-else-unit-eq45 : goal.returns-else-unit-eq45
returns-else-unit-eq45 c hub =
    or_nothing _
    ∙ ap (λ b. has_hub c.args.exits.now hub || b)
    (sym (ap (λ m. any_emits (unit_at m c.args.unit) c.args.cycle c.args.point hub) (sym c.units.view_is)
    ∙ emits_none (machine_in c.units.inside) c.units.invariant c.args.unit c.args.cycle c.args.point hub (omega arith)
    (omega (arith, c.requires.1)) (λ is. absurd (omega (arith, is))) (λ is. absurd (omega (arith, is)))))
