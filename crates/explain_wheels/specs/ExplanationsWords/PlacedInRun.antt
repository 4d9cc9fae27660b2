-- The cycle of a run of the machine over a deck that placed a line.
use Rattle.std.specs.Prelude.{◌≡◌, ℕ, ◌≤◌, List, [], ◌∷◌, All, Contains, length, take, slice_get}
use Rattle.page_text.specs.declared.placed_lines.placed_line.PlacedLine.{PlacedLine}
use Rattle.hubs.specs.SetupsWords.Wiring.{Wiring}
use Rattle.net.specs.declared.cycle.Cycle.{Cycle}
use Rattle.machine.specs.Cycles.{line_of}
use Rattle.machine.specs.Feeds.{Fed, FedLines, FeedStep, begun, taken}
use Rattle.machine.specs.Kept.{IsElsewhere, KeepsPoints, Steps}
use Rattle.machine.specs.Machine.{MachineState, machine_at_start}
use Rattle.machine.specs.Runs.{MachineLines}
use Rattle.explain_wheels.specs.declared.explanations.found.FoundLine.{FoundLine}

-- So many cards of the deck were fed to the machine. Then the next one was, or the end behind the last one, and of the cycles that
-- followed this one placed the line.
pub record PlacedInRun (wiring : Wiring) (deck : List (List ℕ)) (cards : ℕ) (cycle : Cycle) (line : PlacedLine) : Type 0 where
  pub within : cards ≤ length deck
  pub machine : MachineState
  pub lines : List PlacedLine
  pub fed : FedLines wiring (machine_at_start wiring) (take cards deck) machine lines
  pub before : Fed
  pub after : Fed
  pub steps : Steps wiring (begun machine (slice_get deck cards)) before
  pub step : FeedStep wiring cycle before after
  pub placed : line_of after.machine ≡ line ∷ []

-- the machine just before the cycle, with its cards where they stand in it
abbrev pub machine_before : {wiring : Wiring} {deck : List (List ℕ)} {cards : ℕ} {cycle : Cycle} {line : PlacedLine}
    → PlacedInRun wiring deck cards cycle line → MachineState
machine_before {cycle = cycle} run = (taken cycle run.before).machine

-- A cycle was found that placed a line, and its points are kept, and whether what was fed still waited when it was over.
pub record IsFound (wiring : Wiring) (deck : List (List ℕ)) (found : FoundLine) : Type 0 where
  pub run : PlacedInRun wiring deck found.cards found.kept.cycle found.kept.line
  pub waits : found.kept.waits ≡ run.after.waits
  pub points : KeepsPoints wiring found.kept.cycle (machine_before run) 14 found.kept.points

-- the run of the machine over the deck has the line
pub record PrintsLine (wiring : Wiring) (deck : List (List ℕ)) (line : PlacedLine) : Type 0 where
  pub lines : List PlacedLine
  pub run : MachineLines wiring deck lines
  pub printed : Contains lines line

-- the run of the machine over the deck has no line at a page and a line of it
pub record PrintsNoneAt (wiring : Wiring) (deck : List (List ℕ)) (page line : ℕ) : Type 0 where
  pub lines : List PlacedLine
  pub run : MachineLines wiring deck lines
  pub elsewhere : All (IsElsewhere page line) lines

-- A line that a cycle of the run places is one that the machine prints of the deck.
abbrev pub PlacedLinesArePrinted : Type 0
PlacedLinesArePrinted =
    (wiring : Wiring) (deck : List (List ℕ)) (cards : ℕ) (cycle : Cycle) (line : PlacedLine)
    → PlacedInRun wiring deck cards cycle line → PrintsLine wiring deck line
