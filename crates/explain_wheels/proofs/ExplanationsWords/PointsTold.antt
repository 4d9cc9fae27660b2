-- What is told of a hub at a point that is kept.
use Rattle.std.proofs.Common.{◌≡◌, subst, ℕ, ◌<◌, Bool, ◌↔◌, List, Option}
use Rattle.std.specs.Prelude.{Vec, IfSome, IsSome}
use Rattle.std.specs.declared.alloc.Global.{Global}
use Rattle.hubs.specs.declared.hub.Hub.{Hub}
use Rattle.machine.specs.Cycles.{point_at}
use Rattle.machine.specs.Kept.{KeepsPoints, kept_at}
use Rattle.machine.specs.Machine.{MachineState, closes, emits}
use Rattle.machine.specs.declared.kept.KeptPoint.{KeptPoint}
use Rattle.net.specs.HubSets.{has_hub}
use Rattle.net.specs.Impulsed.{IsImpulsed}
use Rattle.net.specs.declared.cycle.Cycle.{Cycle}
use Rattle.hubs.specs.SetupsWords.Wiring.{Wiring}
use Rattle.explain_wheels.specs.WaysWords.Ways.{IsWay}
use Rattle.explain_wheels.specs.ExplanationsWords.Explanations.{TellsPoint}

-- what is told of a hub by exits and contacts
abbrev pub Tells : Wiring → Hub → Option (Vec Hub Global) → (Hub → Bool) → (Hub → Bool) → Type 0
Tells wiring hub found exits closed =
    IfSome found (λ way. IsWay wiring exits closed hub way.items) × (IsSome found ↔ IsImpulsed wiring exits closed hub)

-- is told by the same exits and contacts
told-same : (wiring : Wiring) (hub : Hub) (found : Option (Vec Hub Global)) (exits closed other_exits other_closed : Hub → Bool)
    → exits ≡ other_exits → closed ≡ other_closed
    → Tells wiring hub found exits closed → Tells wiring hub found other_exits other_closed
told-same wiring hub found exits closed other_exits other_closed one other tells =
    subst (λ (c : Hub → Bool). Tells wiring hub found other_exits c) other (subst (λ (e : Hub → Bool). Tells wiring hub found e closed) one tells)

-- a point that is kept tells by the state of the machine just before it
pub point-told : (wiring : Wiring) (cycle : Cycle) (old : MachineState) (points : List KeptPoint) → KeepsPoints wiring cycle old 14 points
    → (place : ℕ) → place < 14 → (hub : Hub) (found : Option (Vec Hub Global))
    → Tells wiring hub found (has_hub (kept_at points place).exits) (has_hub (kept_at points place).contacts)
    → TellsPoint wiring cycle old place hub found
point-told wiring cycle old points keeps place low hub found tells =
    let kept = keeps place low in
    let same =
    told-same wiring hub found _ _ (emits kept.0 cycle (point_at place)) (closes kept.0 cycle (point_at place))
    (λ i hub. kept.2.exits hub i) (λ i hub. kept.2.contacts hub i) tells in
    record { now = kept.0; reached = kept.1; way = same.0; exactly = same.1 }
