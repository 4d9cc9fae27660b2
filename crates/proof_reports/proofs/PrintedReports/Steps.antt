-- The steps of a feed: the cycle that is due, and what follows it.
use Rattle.std.proofs.Common.{◌≡◌, subst, ℕ, Bool, List, [], ◌∷◌, ◌++◌, Option, Some, None}
use Rattle.report_definition.specs.Below.page_text.declared.placed_lines.placed_line.PlacedLine.{PlacedLine}
use Rattle.proof_reports.specs.Below.hubs.SetupsWords.Wiring.{Wiring}
use Rattle.proof_reports.specs.Below.machine.Cycles.{CycleRun, line_of}
use Rattle.proof_reports.specs.Below.machine.Feeds.{Fed, FeedStep, FeedRuns, due_in, taken}
use Rattle.proof_reports.specs.Below.machine.Machine.{MachineState}
use Rattle.proof_reports.specs.Below.net.declared.cycle.Cycle.{Cycle}

-- a machine in a feed
abbrev pub fed_with : MachineState → Bool → Option (List ℕ) → Fed
fed_with machine waits next = record { machine = machine; waits = waits; next = next }

-- A feed goes on from a machine: these lines are still placed, and it leaves this machine.
pub record GoesFrom (wiring : Wiring) (fed : Fed) (new : MachineState) (lines : List PlacedLine) : Type 0 where
  pub cycles : List Cycle
  pub runs : FeedRuns wiring cycles fed new lines

-- A cycle of a feed ran, and the feed goes on after it.
pub record Stepped (wiring : Wiring) (cycle : Cycle) (fed : Fed) (new : MachineState) (lines : List PlacedLine) : Type 0 where
  pub mid : MachineState
  pub others : List PlacedLine
  pub ran : CycleRun wiring cycle (taken cycle fed).machine mid
  pub goes : GoesFrom wiring (fed_with mid (taken cycle fed).waits fed.next) new others
  pub is_lines : lines ≡ line_of mid ++ others

-- the cycle that is due runs
pub stepped :
    (wiring : Wiring) (cycle : Cycle) (fed : Fed) (new : MachineState) (lines : List PlacedLine)
    → due_in fed ≡ Some cycle → GoesFrom wiring fed new lines → Stepped wiring cycle fed new lines
unfolding FeedRuns
stepped wiring cycle fed new lines due goes = by goes.cycles goes.runs
  where
    by : (cycles : List Cycle) → FeedRuns wiring cycles fed new lines → Stepped wiring cycle fed new lines
    by [] (none, same, no_lines) = cc
    by (ran ∷ cycles) (mid, others, step, runs, is_lines) =
        let was_due = step.due in
        let same : ran ≡ cycle = cc in
        let P : Cycle → Type 0 = λ k. FeedStep wiring k fed mid in
        let is = subst P same step in
        let whole : mid ≡ fed_with mid.machine (taken cycle fed).waits fed.next =
        λ i. record { machine = mid.machine; waits = is.waits i; next = is.next i } in
        let R : Fed → Type 0 = λ f. FeedRuns wiring cycles f new others in
        record {
          mid = mid.machine;
          others = others;
          ran = is.ran;
          goes = record { cycles = cycles; runs = subst R whole runs };
          is_lines = is_lines;
        }

-- no cycle is due: the feed is over
pub over :
    (wiring : Wiring) (fed : Fed) (new : MachineState) (lines : List PlacedLine)
    → due_in fed ≡ None → GoesFrom wiring fed new lines → (new ≡ fed.machine) × (lines ≡ [])
unfolding FeedRuns
over wiring fed new lines none goes = by goes.cycles goes.runs
  where
    by : (cycles : List Cycle) → FeedRuns wiring cycles fed new lines → (new ≡ fed.machine) × (lines ≡ [])
    by [] (no_more, same, no_lines) = (same, no_lines)
    by (cycle ∷ cycles) (mid, others, step, runs, is_lines) = let was_due = step.due in cc
