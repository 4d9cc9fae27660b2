-- A machine is fed card by card. The first feed gives it the first card, and its run-in. Each later feed gives it the next
-- card, or none after the last one, and runs the card cycle of the card before, with the heading cycles before that and
-- all cycles after it up to those of the next card. The cards move on exactly when a card cycle is due, just before it runs.
-- That the feeds of a deck are its run is a law.
use Rattle.std.specs.Prelude.{◌≡◌, ℕ, Bool, true, false, not, ◌||◌, List, [], ◌∷◌, ◌++◌, Option, Some, None, if◌then◌else◌}
use Rattle.page_text.specs.declared.placed_lines.placed_line.PlacedLine.{PlacedLine}
use Rattle.hubs.specs.SetupsWords.Wiring.{Wiring}
use Rattle.net.specs.declared.cycle.Cycle.{Cycle}
use Rattle.net.specs.declared.cycle.Cycle.TheVariants.{Card}
use Rattle.program_unit.specs.CycleOrder.{is_fresh, card_over}
use Rattle.machine.specs.Cycles.{CycleRun, line_of}
use Rattle.machine.specs.Machine.{MachineState}
use Rattle.machine.specs.Runs.{cycle_due, has_more, moved_on}

-- whether the cycles of the last card are over
abbrev pub is_over : MachineState → Bool
is_over machine = card_over machine.program (has_more machine)

-- The machine in a feed: what is fed, and whether that still waits for a card cycle to take it.
pub record Fed : Type 0 where
  pub machine : MachineState
  pub waits : Bool
  pub next : Option (List ℕ)

-- The start of a feed. The first card goes to first reading at once; what is fed later waits.
abbrev pub begun : MachineState → Option (List ℕ) → Fed
begun machine next =
    if is_fresh machine.program.stage
    then record { machine = moved_on next machine; waits = false; next = next }
    else record { machine = machine; waits = true; next = next }

-- a card cycle takes what is fed
abbrev pub taken : Cycle → Fed → Fed
taken Card fed = record { machine = moved_on fed.next fed.machine; waits = false; next = fed.next }
taken cycle fed = fed

-- Which cycle is due in a feed. Where nothing waits any more, none is once the cycles of the card are over.
abbrev pub due_in : Fed → Option Cycle
due_in fed = if fed.waits || not (is_over fed.machine) then cycle_due fed.machine else None

-- One cycle of a feed: the one that is due.
pub record FeedStep (wiring : Wiring) (cycle : Cycle) (old new : Fed) : Type 0 where
  pub due : due_in old ≡ Some cycle
  pub ran : CycleRun wiring cycle (taken cycle old).machine new.machine
  pub waits : new.waits ≡ (taken cycle old).waits
  pub next : new.next ≡ old.next

-- the cycles of a feed until none is due, the machine that they leave, and the lines that they place
unfoldable pub FeedRuns : Wiring → List Cycle → Fed → MachineState → List PlacedLine → Type 0
FeedRuns wiring [] fed new lines = (due_in fed ≡ None) × (new ≡ fed.machine) × (lines ≡ [])
FeedRuns wiring (cycle ∷ cycles) fed new lines =
    (mid : Fed)
    × (others : List PlacedLine)
    × FeedStep wiring cycle fed mid
    × FeedRuns wiring cycles mid new others
    × (lines ≡ line_of mid.machine ++ others)

-- A feed: a card, or none after the last one, the machine that it leaves, and the lines that it places.
pub record Feeds (wiring : Wiring) (old : MachineState) (next : Option (List ℕ)) (new : MachineState)
    (lines : List PlacedLine) : Type 0 where
  pub cycles : List Cycle
  pub runs : FeedRuns wiring cycles (begun old next) new lines

-- Cards fed one after another: the machine that the last of these feeds leaves, and the lines that they place. A feed places the lines
-- of the card before it, so those of the last card are still to come.
unfoldable pub FedLines : Wiring → MachineState → List (List ℕ) → MachineState → List PlacedLine → Type 0
FedLines wiring old [] new lines = (new ≡ old) × (lines ≡ [])
FedLines wiring old (card ∷ cards) new lines =
    (mid : MachineState)
    × (first others : List PlacedLine)
    × Feeds wiring old (Some card) mid first
    × FedLines wiring mid cards new others
    × (lines ≡ first ++ others)

-- the lines of a feed for each of these cards, and of one for the end
unfoldable pub LinesFrom : Wiring → MachineState → List (List ℕ) → List PlacedLine → Type 0
LinesFrom wiring old [] lines = (new : MachineState) × Feeds wiring old None new lines
LinesFrom wiring old (card ∷ cards) lines =
    (new : MachineState)
    × (first others : List PlacedLine)
    × Feeds wiring old (Some card) new first
    × LinesFrom wiring new cards others
    × (lines ≡ first ++ others)
