-- Helper words: what a feed adds to the lines that stand already.
use Rattle.std.specs.Prelude.{◌≡◌, List, ◌++◌, Option, ℕ}
use Rattle.page_text.specs.declared.placed_lines.placed_line.PlacedLine.{PlacedLine}
use Rattle.hubs.specs.SetupsWords.Wiring.{Wiring}
use Rattle.net.specs.Nets.{NetRows, IsNetOf}
use Rattle.machine.specs.Feeds.{Feeds}
use Rattle.machine.specs.Machine.{MachineState}

-- With the wires of a setup the lines have gained exactly those of the feed.
pub record GainsFeed (net : NetRows) (machine : MachineState) (next : Option (List ℕ)) (left : MachineState)
    (old new : List PlacedLine) : Type 0 where
  pub lines : List PlacedLine
  pub gained : new ≡ old ++ lines
  pub feeds : (wiring : Wiring) → IsNetOf wiring net → Feeds wiring machine next left lines

-- With the wires of a setup the lines have gained a prefix of those of the feed.
pub record GainsPrefix (net : NetRows) (machine : MachineState) (next : Option (List ℕ)) (old new : List PlacedLine) :
    Type 0 where
  pub first : List PlacedLine
  pub gained : new ≡ old ++ first
  pub due :
      (wiring : Wiring) → IsNetOf wiring net → (left : MachineState) (lines : List PlacedLine)
      → Feeds wiring machine next left lines → (others : List PlacedLine) × (lines ≡ first ++ others)
