-- Helper words: what a feed adds to the lines that were found on a page.
use Rattle.std.specs.Prelude.{◌≡◌, ℕ, List, ◌++◌, Option, map}
use Rattle.hubs.specs.SetupsWords.Wiring.{Wiring}
use Rattle.net.specs.Nets.{NetRows, IsNetOf}
use Rattle.machine.specs.Kept.{FeedsKeeping}
use Rattle.machine.specs.Machine.{MachineState}
use Rattle.machine.specs.declared.kept.KeptCycle.{KeptCycle}
use Rattle.explain_wheels.specs.declared.explanations.found.FoundLine.{FoundLine}

-- a cycle of the feed that so many cards were before
abbrev pub found_by : ℕ → KeptCycle → FoundLine
found_by cards kept = record { cards = cards; kept = kept }

-- With the wires of a setup the found lines have gained those that a feed placed on a page; so many cards were fed before.
pub record GainsFound (net : NetRows) (machine : MachineState) (next : Option (List ℕ)) (left : MachineState) (page cards : ℕ)
    (old new : List FoundLine) : Type 0 where
  pub kept : List KeptCycle
  pub gained : new ≡ old ++ map (found_by cards) kept
  pub feeds : (wiring : Wiring) → IsNetOf wiring net → FeedsKeeping wiring machine next left page kept
