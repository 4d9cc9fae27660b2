-- What is told of hubs at the points of a cycle of a run.
use Rattle.std.specs.Prelude.{ℕ, List, Option, Vec}
use Rattle.std.specs.declared.alloc.Global.{Global}
use Rattle.explain_wheels.specs.ExplanationsWords.Explanations.{TellsPoint}
use Rattle.explain_wheels.specs.RunsWords.{HasCycle, ready}
pub use Rattle.explain_wheels.specs.RunsWords.{ArePointsOf}
use Rattle.hubs.specs.SetupsWords.Wiring.{Wiring}
use Rattle.hubs.specs.declared.hub.Hub.{Hub}

-- What is told of a hub at a point of a cycle of a run.
abbrev pub TellsOf : {wiring : Wiring} {deck : List (List ℕ)} {passed : ℕ} → HasCycle wiring deck passed → (place : ℕ) → Hub
    → Option (Vec Hub Global) → Type 0
TellsOf {wiring = wiring} has place hub found = TellsPoint wiring has.cycle (ready has.cycle has.along) place hub found
