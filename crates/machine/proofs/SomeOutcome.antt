-- A setup and a deck have a run: each point has its picture, each cycle its points, each feed its cycles, and no feed goes on
-- for ever.
use Rattle.std.proofs.Common.{◌≡◌, ℕ, zero, suc, ◌≤◌, List, [], ◌∷◌, ◌++◌, Option, Some, None, ◌⊎◌, inl, inr, refl, arith}
use Rattle.page_text.specs.declared.placed_lines.placed_line.PlacedLine.{PlacedLine}
use Rattle.hubs.specs.SetupsWords.Wiring.{Wiring}
use Rattle.net.proofs.EachPicture.{each_picture}
use Rattle.net.specs.declared.cycle.Cycle.{Cycle}
use Rattle.net.specs.declared.cycle.Point.{Point}
use Rattle.machine.specs.Cycles.{PointStep, Reached, CycleRun, point_at, line_of}
use Rattle.machine.specs.Feeds.{Fed, FedLines, FeedStep, FeedRuns, LinesFrom, begun, due_in, taken}
use Rattle.machine.specs.Machine.{MachineState, machine_at_start, emits, closes, sensed, ended}
use Rattle.machine.specs.Runs.{MachineLines}
use Rattle.machine.proofs.FeedsInRuns.{feeds-in-run}
use Rattle.machine.proofs.FeedSteps.{left, FeedStep-falls}

-- each point of a cycle leaves a machine
PointStep-some : (wiring : Wiring) (cycle : Cycle) (point : Point) (old : MachineState)
    → (new : MachineState) × PointStep wiring cycle point old new
PointStep-some wiring cycle point old =
    let found = each_picture wiring (emits old cycle point) (closes old cycle point) in
    (sensed old cycle point found.0, record { picture = found.0; is_picture = found.1; is_new = refl })

Reached-some : (wiring : Wiring) (cycle : Cycle) (place : ℕ) (old : MachineState)
    → (now : MachineState) × Reached wiring cycle place old now
unfolding Reached
Reached-some wiring cycle zero old = (old, refl)
Reached-some wiring cycle (suc place) old =
    let before = Reached-some wiring cycle place old in
    let step = PointStep-some wiring cycle (point_at place) before.0 in
    (step.0, (before.0, before.1, step.1))

-- and so does each cycle
pub CycleRun-some : (wiring : Wiring) (cycle : Cycle) (old : MachineState)
    → (new : MachineState) × CycleRun wiring cycle old new
CycleRun-some wiring cycle old =
    let points = Reached-some wiring cycle 14 old in
    (ended points.0 cycle, record { at_end = points.0; reached = points.1; is_new = refl })

-- the cycle that is due in a feed runs
FeedStep-some : (wiring : Wiring) (cycle : Cycle) (fed : Fed) → due_in fed ≡ Some cycle
    → (new : Fed) × FeedStep wiring cycle fed new
FeedStep-some wiring cycle fed due =
    let run = CycleRun-some wiring cycle (taken cycle fed).machine in (
      record { machine = run.0; waits = (taken cycle fed).waits; next = fed.next },
      record { due = due; ran = run.1; waits = refl; next = refl },
    )

-- what the cycles of a feed leave, and the lines that they place
record FeedEnds (wiring : Wiring) (fed : Fed) : Type 0 where
  cycles : List Cycle
  new : MachineState
  lines : List PlacedLine
  runs : FeedRuns wiring cycles fed new lines

FeedEnds-none : (wiring : Wiring) (fed : Fed) → due_in fed ≡ None → FeedEnds wiring fed
unfolding FeedRuns
FeedEnds-none wiring fed due =
    record { cycles = []; new = fed.machine; lines = []; runs = (due, refl, refl) }

FeedEnds-more : (wiring : Wiring) (cycle : Cycle) (fed mid : Fed) → FeedStep wiring cycle fed mid → FeedEnds wiring mid
    → FeedEnds wiring fed
unfolding FeedRuns
FeedEnds-more wiring cycle fed mid step others = record {
  cycles = cycle ∷ others.cycles;
  new = others.new;
  lines = line_of mid.machine ++ others.lines;
  runs = (mid, others.lines, step, others.runs, refl);
}

due_or_none : (due : Option Cycle) → (due ≡ None) ⊎ ((cycle : Cycle) × (due ≡ Some cycle))
due_or_none None = inl refl
due_or_none (Some cycle) = inr (cycle, refl)

-- a feed ends, as each of its cycles leaves less to follow
FeedEnds-some : (many : ℕ) (wiring : Wiring) (fed : Fed) → left fed ≤ many → FeedEnds wiring fed
FeedEnds-some zero wiring fed few = elim (due_or_none (due_in fed)) [
  | inl none ↦ FeedEnds-none wiring fed none
  | inr (cycle, due) ↦
      let step = FeedStep-some wiring cycle fed due in
      let falls = FeedStep-falls wiring cycle fed step.0 step.1 in
      absurd (omega (arith, few, falls))
]
FeedEnds-some (suc many) wiring fed few = elim (due_or_none (due_in fed)) [
  | inl none ↦ FeedEnds-none wiring fed none
  | inr (cycle, due) ↦
      let step = FeedStep-some wiring cycle fed due in
      let falls = FeedStep-falls wiring cycle fed step.0 step.1 in
      FeedEnds-more wiring cycle fed step.0 step.1
      (FeedEnds-some many wiring step.0 (omega (arith, few, falls)))
]

FeedEnds-begun : (wiring : Wiring) (old : MachineState) (next : Option (List ℕ)) → FeedEnds wiring (begun old next)
FeedEnds-begun wiring old next = FeedEnds-some (left (begun old next)) wiring (begun old next) (omega arith)

-- so do the feeds of some cards
pub FedLines-some : (wiring : Wiring) (old : MachineState) (cards : List (List ℕ))
    → (left : MachineState) × (lines : List PlacedLine) × FedLines wiring old cards left lines
unfolding FedLines
FedLines-some wiring old [] = (old, [], (refl, refl))
FedLines-some wiring old (card ∷ cards) =
    let feed = FeedEnds-begun wiring old (Some card) in
    let others = FedLines-some wiring feed.new cards in (
      others.0,
      feed.lines ++ others.1,
      (
        feed.new,
        feed.lines,
        others.1,
        record { cycles = feed.cycles; runs = feed.runs },
        others.2,
        refl,
      ),
    )

-- the feeds of a deck run one after another
pub LinesFrom-some : (wiring : Wiring) (old : MachineState) (cards : List (List ℕ))
    → (lines : List PlacedLine) × LinesFrom wiring old cards lines
unfolding LinesFrom
LinesFrom-some wiring old [] =
    let feed = FeedEnds-begun wiring old None in
    (feed.lines, (feed.new, record { cycles = feed.cycles; runs = feed.runs }))
LinesFrom-some wiring old (card ∷ cards) =
    let feed = FeedEnds-begun wiring old (Some card) in
    let others = LinesFrom-some wiring feed.new cards in (
      feed.lines ++ others.0,
      (
        feed.new,
        feed.lines,
        others.0,
        record { cycles = feed.cycles; runs = feed.runs },
        others.1,
        refl,
      ),
    )

-- each setup and each deck have a list of lines
pub MachineLines-some : (wiring : Wiring) (cards : List (List ℕ))
    → (lines : List PlacedLine) × MachineLines wiring cards lines
MachineLines-some wiring cards =
    let fed = LinesFrom-some wiring (machine_at_start wiring) cards in (fed.0, feeds-in-run wiring cards fed.0 fed.1)
