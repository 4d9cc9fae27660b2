-- A run of the machine over a deck. The cards lie in the hopper. Before any cycle the first of them goes to first reading. From then
-- on the cycle runs that is due by the order of cycles, and just before a card cycle the cards move on by one. The run is over
-- where no cycle is due.
use Rattle.std.specs.Prelude.{◌≡◌, ℕ, Bool, List, [], ◌∷◌, ◌++◌, Option, Some, None, is_some}
use Rattle.page_text.specs.declared.placed_lines.placed_line.PlacedLine.{PlacedLine}
use Rattle.hubs.specs.SetupsWords.Wiring.{Wiring}
use Rattle.net.specs.declared.cycle.Cycle.{Cycle}
use Rattle.net.specs.declared.cycle.Cycle.TheVariants.{Card}
use Rattle.program_unit.specs.CycleOrder.{next_cycle}
use Rattle.stations.specs.Stations.{loaded}
use Rattle.machine.specs.Cycles.{CycleRun, line_of}
use Rattle.machine.specs.Machine.{MachineState, machine_at_start}

-- the machine with its cards moved on by one, and this card, if any, at first reading
abbrev pub moved_on : Option (List ℕ) → MachineState → MachineState
moved_on next machine = record machine { stations = loaded next machine.stations }

-- whether a card stands at first reading
abbrev pub has_more : MachineState → Bool
has_more machine = is_some machine.stations.first

-- which cycle is due, if any: the order hangs on the program unit, on the restore latch, and on whether a card stands at first reading
abbrev pub cycle_due : MachineState → Option Cycle
cycle_due machine = next_cycle machine.program machine.carriage.spot.latch (has_more machine)

-- A machine in a run, and the cards that still lie in its hopper.
pub record InRun : Type 0 where
  pub machine : MachineState
  pub hopper : List (List ℕ)

-- the cards move on by one: the next card of the hopper goes to first reading, none where the hopper is empty
abbrev pub cards_moved : MachineState → List (List ℕ) → InRun
cards_moved machine [] = record { machine = moved_on None machine; hopper = [] }
cards_moved machine (card ∷ cards) = record { machine = moved_on (Some card) machine; hopper = cards }

-- just before a card cycle the cards move on; before other cycles they stay
abbrev pub made_ready : Cycle → InRun → InRun
made_ready Card run = cards_moved run.machine run.hopper
made_ready cycle run = run

-- The cycles of a run from now on, one after the other until none is due, and the lines that they place. What a cycle makes of the
-- machine is a relation of its own.
unfoldable pub RunsBy : (Cycle → MachineState → MachineState → Type 0) → List Cycle → InRun → List PlacedLine → Type 0
RunsBy Runs [] run lines = (cycle_due run.machine ≡ None) × (lines ≡ [])
RunsBy Runs (cycle ∷ cycles) run lines =
    (new : MachineState)
    × (others : List PlacedLine)
    × (cycle_due run.machine ≡ Some cycle)
    × Runs cycle (made_ready cycle run).machine new
    × RunsBy Runs cycles (record { machine = new; hopper = (made_ready cycle run).hopper }) others
    × (lines ≡ line_of new ++ others)

-- at the start no cycle has run, and the first card stands at first reading
abbrev pub run_at_start : Wiring → List (List ℕ) → InRun
run_at_start wiring cards = cards_moved (machine_at_start wiring) cards

-- the lines of a run over a deck
abbrev pub MachineLines : Wiring → List (List ℕ) → List PlacedLine → Type 0
MachineLines wiring cards lines = (cycles : List Cycle) × RunsBy (CycleRun wiring) cycles (run_at_start wiring cards) lines
