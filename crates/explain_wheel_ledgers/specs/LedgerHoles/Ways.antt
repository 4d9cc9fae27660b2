-- The line of a way by which an impulse came in a cycle of a run.
use Rattle.std.specs.Prelude.{◌≡◌, ℕ, List, [], ◌++◌, Option, Some, None, Vec, codes}
use Rattle.std.specs.declared.alloc.Global.{Global}
use Rattle.explain_ledgers.specs.CycleWays.Points.{TellsOf}
use Rattle.explain_words.specs.ExplanationText.Text.{way_text}
use Rattle.hubs.specs.declared.hub.Hub.{Hub}
use Rattle.explain_ledgers.specs.LedgersWords.Running.{HasCycle}
use Rattle.hubs.specs.SetupsWords.Wiring.{Wiring}

-- a way behind a front; nothing if there is none
abbrev pub way_line : (front : List ℕ) → Option (Vec Hub Global) → List ℕ
way_line front None = []
way_line front (Some way) = front ++ way_text way.items ++ codes "\n"

-- The line of the way to a hub at a point of a cycle of a run, behind a front; nothing if the hub wasn't impulsed there.
pub record IsWayLine {wiring : Wiring} {deck : List (List ℕ)} {passed : ℕ} (has : HasCycle wiring deck passed) (place : ℕ) (hub : Hub)
    (front answer : List ℕ) : Type 0 where
  pub found : Option (Vec Hub Global)
  pub tells : TellsOf has place hub found
  pub line : answer ≡ way_line front found
