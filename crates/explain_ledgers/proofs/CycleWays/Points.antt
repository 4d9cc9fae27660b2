-- What is found at a point that is kept.
use Rattle.std.proofs.Common.{◌≡◌, subst, ℕ, ◌<◌, ◌↔◌, List, Option}
use Rattle.std.specs.Prelude.{Vec, IfOk, IfSome, IsSome, Result, Ok, Err}
use Rattle.std.specs.declared.alloc.Global.{Global}
use Rattle.explain_wheels.proofs.ExplanationsWords.PointsTold.{Tells, point-told}
use Rattle.hubs.specs.declared.hub.Hub.{Hub}
use Rattle.explain_ledgers.specs.LedgersWords.Ledgers.{ready}
use Rattle.machine.specs.Kept.{kept_at}
use Rattle.machine.specs.declared.kept.KeptPoint.{KeptPoint}
use Rattle.net.specs.HubSets.{has_hub}
use Rattle.net.specs.Impulsed.{IsImpulsed}
use Rattle.hubs.specs.SetupsWords.Wiring.{Wiring}
use Rattle.explain_wheels.specs.WaysWords.Ways.{IsWay}
use Rattle.explain_ledgers.specs.CycleWays.Points.{ArePointsOf, TellsOf}

-- what was found at a point of a cycle is told
pub points-tell : {E : Type 0} (result : Result (Option (Vec Hub Global)) E) (wiring : Wiring) (deck : List (List ℕ)) (passed : ℕ)
    (points : List KeptPoint) (is : ArePointsOf wiring deck passed points) (place : ℕ) → place < 14 → (hub : Hub) (point : KeptPoint)
    → point ≡ kept_at points place
    → IfOk result (λ found. IfSome found (λ way. IsWay wiring (has_hub point.exits) (has_hub point.contacts) hub way.items))
    → IfOk result (λ found. IsSome found ↔ IsImpulsed wiring (has_hub point.exits) (has_hub point.contacts) hub)
    → IfOk result (TellsOf is.has place hub)
points-tell (Ok found) wiring deck passed points is place low hub point same way exactly =
    point-told wiring is.has.cycle (ready is.has.cycle is.has.along) points is.kept place low hub found
    (subst (λ (p : KeptPoint). Tells wiring hub found (has_hub p.exits) (has_hub p.contacts)) same (way, exactly))
points-tell (Err fault) wiring deck passed points is place low hub point same way exactly = tt
