use Rattle.std.proofs.Common.{ap, ◌∙◌, ◌||◌, sym}
use Rattle.std.proofs.Math.Bool.{or-false}
use Rattle.std.specs.List.{list_any}
use Rattle.counters.specs.Counters.{counter_emits}
use Rattle.net.specs.HubSets.{has_hub}
use Rattle.net.specs.declared.cycle.Point.{Point}
use Rattle.machine.proofs.CarryExits.{carries-row}
use Rattle.machine.proofs.ClosedContacts.{none-of}
use Rattle.machine.proofs.Rest.{busy-emits}
use Rattle.machine.proofs.groups.emit_groups.Goals as goal

pub returns-in-C : goal.returns-in-C
returns-in-C c exit =
    sym (or-false (has_hub c.args.exits.now exit))
    ∙ ap (λ b. has_hub c.args.exits.now exit || b)
    (sym (none-of c.args.groups.now)
    ∙ ap (λ (p : Point). list_any (λ group. counter_emits group c.args.cycle p exit) c.args.groups.now) (sym c.in-C.is))

pub returns-in-Row : goal.returns-in-Row
returns-in-Row c exit =
    c.emit_marked.ensures exit
    ∙ ap (λ b. has_hub c.args.exits.now exit || b)
    (busy-emits c.args.busy c.args.groups.now c.args.cycle c.args.point exit c.requires.busy)

pub returns-in-K : goal.returns-in-K
returns-in-K c exit =
    c.emit_carries.ensures exit
    ∙ ap (λ b. has_hub c.args.exits.now exit || b)
    (carries-row c.carrying.result c.args.groups.now c.args.cycle exit c.requires.ordered c.carrying.ensures
    ∙ ap (λ (p : Point). list_any (λ group. counter_emits group c.args.cycle p exit) c.args.groups.now) (sym c.in-K.is))
