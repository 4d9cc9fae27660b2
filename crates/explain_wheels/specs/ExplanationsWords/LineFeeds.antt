-- Helper words: what is found of the first lines, and what a feed keeps.
use Rattle.std.specs.Prelude.{◌≡◌, ℕ, List, ◌++◌, All, Option, take}
use Rattle.page_text.specs.declared.placed_lines.placed_line.PlacedLine.{PlacedLine}
use Rattle.hubs.specs.SetupsWords.Wiring.{Wiring}
use Rattle.net.specs.Nets.{NetRows, IsNetOf}
use Rattle.machine.specs.Feeds.{Feeds}
use Rattle.machine.specs.Kept.{PlacedInFeed}
use Rattle.machine.specs.Machine.{MachineState}
use Rattle.machine.specs.declared.kept.KeptCycle.{KeptCycle}
use Rattle.explain_wheels.specs.ExplanationsWords.Pages.{AreFoundLines}
use Rattle.explain_wheels.specs.declared.explanations.found.FoundLine.{FoundLine}

-- the first of some lines, so many, are found
abbrev pub AreFoundTo : Wiring → List (List ℕ) → List PlacedLine → ℕ → List FoundLine → Type 0
AreFoundTo wiring deck lines count found = AreFoundLines wiring deck (take count lines) found

-- With the wires of a setup a feed was made, and the kept cycles have gained some of it.
pub record FeedsSome (net : NetRows) (machine : MachineState) (next : Option (List ℕ)) (left : MachineState)
    (old new : List KeptCycle) : Type 0 where
  pub kept : List KeptCycle
  pub gained : new ≡ old ++ kept
  pub feeds : (wiring : Wiring) → IsNetOf wiring net → (lines : List PlacedLine) × Feeds wiring machine next left lines
  pub placed : (wiring : Wiring) → IsNetOf wiring net → All (PlacedInFeed wiring machine next) kept
