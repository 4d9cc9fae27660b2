-- Laws of whole runs, for every setup of the panel and every deck.
use Rattle.std.specs.Prelude.{◌≡◌, ℕ, ◌+◌, ◌*◌, ◌≤◌, ◌↔◌, Bool, Option, List, ◌++◌, length}
use Rattle.card_code.specs.MostCards.{most_cards}
use Rattle.page_text.specs.PlacedLines.InOrder.{IsInOrder}
use Rattle.page_text.specs.declared.placed_lines.placed_line.PlacedLine.{PlacedLine}
use Rattle.hubs.specs.declared.hub.Hub.{Hub}
use Rattle.hubs.specs.SetupsWords.Tapes.{IsCarriageTape, SameTape}
use Rattle.hubs.specs.SetupsWords.Wiring.{Wiring, SameWires, SameJacks}
use Rattle.net.specs.declared.cycle.Cycle.{Cycle}
use Rattle.net.specs.declared.cycle.Point.{Point}
use Rattle.selectors.specs.Contacts.{closed_contacts}
use Rattle.machine.specs.Cycles.{CycleRun}
use Rattle.machine.specs.Fields.{AreInUnitOrder}
use Rattle.machine.specs.Feeds.{Fed, FedLines, FeedStep, LinesFrom}
use Rattle.machine.specs.Machine.{MachineState, machine_at_start, closes, sensed, ended}
use Rattle.machine.specs.Runs.{MachineLines, RunsBy, moved_on, run_at_start}
use Rattle.machine.specs.Steady.{balance_latches, nines_of}

-- A run is what the feeds of its cards, and one for the end, do one after another: the lines are the same.
abbrev pub FeedsCutRuns : Type 0
FeedsCutRuns =
    (wiring : Wiring) (cards : List (List ℕ)) (lines : List PlacedLine)
    → MachineLines wiring cards lines ↔ LinesFrom wiring (machine_at_start wiring) cards lines

-- A run over n cards has at most 28 n + 1 cycles: the run-in, and for each card its own cycle, three program cycles for each of
-- four levels, and three heading cycles before each of the five that can print.
abbrev pub RunsHaveFewCycles : Type 0
RunsHaveFewCycles =
    (wiring : Wiring) (cards : List (List ℕ)) (cycles : List Cycle) (lines : List PlacedLine)
    → RunsBy (CycleRun wiring) cycles (run_at_start wiring cards) lines
    → length cycles ≤ 28 * length cards + 1

-- The lines of a run come in the order of their places, on pages 1 to 2^32 and lines of the form, where the deck has at most
-- 999,999 cards.
abbrev pub LinesComeInOrder : Type 0
LinesComeInOrder =
    (wiring : Wiring) (cards : List (List ℕ)) (lines : List PlacedLine)
    → IsCarriageTape wiring.tape → length cards ≤ most_cards → MachineLines wiring cards lines → IsInOrder wiring.tape.lines lines

-- At most one cycle follows in a feed, and it leaves one machine.
abbrev pub OneCycleFollows : Type 0
OneCycleFollows =
    (wiring : Wiring) (old one other : Fed) (cycle also : Cycle)
    → FeedStep wiring cycle old one → FeedStep wiring also old other → (cycle ≡ also) × (one ≡ other)

-- Every setup and every deck have a list of lines.
abbrev pub RunsHaveAnOutcome : Type 0
RunsHaveAnOutcome =
    (wiring : Wiring) (cards : List (List ℕ)) → (lines : List PlacedLine) × MachineLines wiring cards lines

-- Every setup can be fed any cards, from every state of the machine.
abbrev pub FeedsHaveAnOutcome : Type 0
FeedsHaveAnOutcome =
    (wiring : Wiring) (old : MachineState) (cards : List (List ℕ))
    → (left : MachineState) × (lines : List PlacedLine) × FedLines wiring old cards left lines

-- A setup and a deck have one list of lines at most.
abbrev pub RunsHaveOneOutcome : Type 0
RunsHaveOneOutcome =
    (wiring : Wiring) (cards : List (List ℕ)) (one other : List PlacedLine)
    → MachineLines wiring cards one → MachineLines wiring cards other → one ≡ other

-- The lines of a run over a deck in two parts are those of the feeds of its first cards, and then those of a run over the others from the
-- machine that these feeds leave.
abbrev pub RunsGoInParts : Type 0
RunsGoInParts =
    (wiring : Wiring) (old : MachineState) (cards after : List (List ℕ)) (lines : List PlacedLine)
    → LinesFrom wiring old (cards ++ after) lines
    → (mid : MachineState)
    × (first rest : List PlacedLine)
    × FedLines wiring old cards mid first
    × LinesFrom wiring mid after rest
    × (lines ≡ first ++ rest)

-- Setups with the same wires, jacks and tape have the same lines.
abbrev pub SameSetupsPrintAlike : Type 0
SameSetupsPrintAlike =
    (one other : Wiring) (cards : List (List ℕ)) (lines : List PlacedLine)
    → IsCarriageTape one.tape → IsCarriageTape other.tape
    → SameWires one other → SameJacks one other → SameTape one.tape other.tape
    → MachineLines one cards lines → MachineLines other cards lines

-- The contacts that the units close are the closed contacts of the panel, which pilots, group indication, the balance latches of
-- the groups and which of them stand at nines tell, at every point of every cycle. So it is while the groups stand in the order of their units: they do at the start,
-- and stay so when cards move on, when a picture is sensed and when a cycle ends.
pub record UnitsCloseThePanelsContacts : Type 0 where
  pub at_start : (wiring : Wiring) → AreInUnitOrder (machine_at_start wiring).groups
  pub moving_on :
      (machine : MachineState) (next : Option (List ℕ))
      → AreInUnitOrder machine.groups → AreInUnitOrder (moved_on next machine).groups
  pub sensing :
      (machine : MachineState) (cycle : Cycle) (point : Point) (picture : Hub → Bool)
      → AreInUnitOrder machine.groups → AreInUnitOrder (sensed machine cycle point picture).groups
  pub ending :
      (machine : MachineState) (cycle : Cycle) → AreInUnitOrder machine.groups → AreInUnitOrder (ended machine cycle).groups
  pub closed :
      (machine : MachineState) (cycle : Cycle) (point : Point) (hub : Hub) → AreInUnitOrder machine.groups
      → closes machine cycle point hub
      ≡ closed_contacts cycle point machine.pilots machine.indicate (balance_latches machine.groups) (nines_of machine.groups) hub
