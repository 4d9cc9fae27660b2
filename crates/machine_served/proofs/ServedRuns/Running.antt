-- A run in rounds, as far as it has come.
use Rattle.std.proofs.Common.{◌≡◌, ◌∙◌, ap, sym, refl, ℕ, ◌+◌, ◌*◌, ◌<◌, ◌≤◌, List, [], ◌∷◌, ◌++◌, Some, None, length, subst, append_assoc, arith}
use Rattle.machine.proofs.FewCycles.{IsSupplied, ahead, ahead-falls, still-supplied}
use Rattle.machine.proofs.Keeps.{CycleRun-ends}
use Rattle.machine.specs.Cycles.{CycleRun, line_of}
use Rattle.machine.specs.Machine.{MachineState, machine_at_start}
use Rattle.machine.specs.Runs.{InRun, MachineLines, RunsBy, cycle_due, made_ready, run_at_start}
use Rattle.net.specs.declared.cycle.Cycle.{Cycle}
use Rattle.page_text.specs.declared.placed_lines.placed_line.PlacedLine.{PlacedLine}
use Rattle.machine_served.proofs.ServedWords.FewRounds.{rounds_steps}
use Rattle.machine_served.specs.ServedRuns.Runs.{CycleInRounds, IsServedRun, RunsInRounds, no_counts, orders_from}
use Rattle.machine_served.specs.declared.served_runs.counts.Counts.{Counts}
use Rattle.machine_served.proofs.ServedUnits.ServedRuns.{moved_ordered, ready_ordered, served_cycles_are, served_runs_print, stays_ordered}
use Rattle.machine_served.specs.ServedUnits.AnyUnit.{AreInOrder, any_kind}
use Rattle.machine_served.specs.ServedUnits.Runs.{ServedCycle}
use Rattle.hubs.specs.SetupsWords.Wiring.{Wiring}

-- a cycle in rounds is one by a schedule
pub cycle_served : (wiring : Wiring) (service : List (List ℕ)) (cycle : Cycle) (old new : MachineState) (before after : Counts)
    → CycleInRounds wiring service cycle old new before after → ServedCycle wiring cycle old new
cycle_served wiring service cycle old new before after run =
    let steps = rounds_steps any_kind wiring cycle 45 (orders_from service before.rounds run.rounds) run.start run.last run.taken in
    record {
      served = record {
        steps = steps.0;
        start = run.start;
        last = run.last;
        starts = run.starts;
        taken = steps.1;
        over = steps.2;
      };
      ended = run.ended;
    }

-- a run in rounds is one by schedules
runs_served : (wiring : Wiring) (service : List (List ℕ)) (cycles : List Cycle) (run : InRun) (before : Counts) (lines : List PlacedLine)
    (after : Counts) → RunsInRounds wiring service cycles run before lines after → RunsBy (ServedCycle wiring) cycles run lines
unfolding RunsInRounds RunsBy
runs_served wiring service [] run before lines after runs = (runs.0, runs.1)
runs_served wiring service (cycle ∷ cycles) run before lines after runs = (
  runs.0,
  runs.2,
  runs.3,
  cycle_served wiring service cycle (made_ready cycle run).machine runs.0 before runs.1 runs.4,
  runs_served wiring service cycles (record { machine = runs.0; hopper = (made_ready cycle run).hopper }) runs.1 runs.2 after runs.5,
  runs.6,
)

-- its lines are the machine's
pub served_lines : (wiring : Wiring) (service cards : List (List ℕ)) (lines : List PlacedLine) (counts : Counts)
    → IsServedRun wiring service cards lines counts → MachineLines wiring cards lines
served_lines wiring service cards lines counts run =
    (served_runs_print wiring cards lines).0
    (run.0, runs_served wiring service run.0 (run_at_start wiring cards) no_counts lines counts run.1)

-- a cycle in rounds of units in their order is a cycle of the machine
cycle_ran : (wiring : Wiring) (service : List (List ℕ)) (cycle : Cycle) (old new : MachineState) (before after : Counts) → AreInOrder old
    → CycleInRounds wiring service cycle old new before after → CycleRun wiring cycle old new
cycle_ran wiring service cycle old new before after ordered run =
    (served_cycles_are wiring cycle old new ordered).0 (cycle_served wiring service cycle old new before after run)

-- at the start a card cycle follows only where a card stands at first reading, and few cycles follow
pub start_supplied : (wiring : Wiring) (cards : List (List ℕ)) → IsSupplied (run_at_start wiring cards).machine
start_supplied wiring [] = λ none. refl
start_supplied wiring (card ∷ cards) = λ none. refl

pub start_ahead : (wiring : Wiring) (cards : List (List ℕ)) → ahead (run_at_start wiring cards) ≤ 28 * length cards + 1
start_ahead wiring [] = omega arith
start_ahead wiring (card ∷ cards) = omega arith

-- the units stand in order at the start
pub start_ordered : (wiring : Wiring) (cards : List (List ℕ)) → AreInOrder (run_at_start wiring cards).machine
start_ordered wiring cards = moved_ordered (machine_at_start wiring) cards refl

-- A cycle leaves less to follow, and the units in their order.
pub record GoesOn (now : InRun) (ready : InRun) (new : MachineState) : Type 0 where
  pub falls : ahead (record { machine = new; hopper = ready.hopper }) < ahead now
  pub supplied : IsSupplied new
  pub ordered : AreInOrder new

pub goes_on : (wiring : Wiring) (service : List (List ℕ)) (cycle : Cycle) (now ready : InRun) (new : MachineState) (before after : Counts)
    → made_ready cycle now ≡ ready → IsSupplied now.machine → cycle_due now.machine ≡ Some cycle → AreInOrder now.machine
    → CycleInRounds wiring service cycle ready.machine new before after → GoesOn now ready new
goes_on wiring service cycle now ready new before after is supplied due ordered =
    subst (λ (r : InRun). CycleInRounds wiring service cycle r.machine new before after → GoesOn now r new) is
    (λ run.
    let old = (made_ready cycle now).machine in
    let still = ready_ordered cycle now ordered in
    let ran = cycle_ran wiring service cycle old new before after still run in
    let ends = (CycleRun-ends wiring cycle old new ran).order in
    record {
      falls = ahead-falls cycle now new supplied due ends;
      supplied = still-supplied cycle now new supplied due ends;
      ordered = stays_ordered wiring cycle old still new ran;
    })

module _ (wiring : Wiring) (service cards : List (List ℕ)) where
  -- the cycles of a run from now on give those of all
  abbrev pub RunSoFar : InRun → Counts → List PlacedLine → Type 0
  RunSoFar now counts lines =
      (cycles : List Cycle) (others : List PlacedLine) (after : Counts) → RunsInRounds wiring service cycles now counts others after
      → IsServedRun wiring service cards (lines ++ others) after

  pub run_none : RunSoFar (run_at_start wiring cards) no_counts []
  run_none cycles others after runs = (cycles, runs)

  pub run_more : (now : InRun) (counts mid : Counts) (lines placed : List PlacedLine) (cycle : Cycle) (new : MachineState)
      → cycle_due now.machine ≡ Some cycle
      → CycleInRounds wiring service cycle (made_ready cycle now).machine new counts mid
      → placed ≡ line_of new
      → RunSoFar now counts lines
      → RunSoFar (record { machine = new; hopper = (made_ready cycle now).hopper }) mid (lines ++ placed)
  unfolding RunsInRounds
  run_more now counts mid lines placed cycle new due run is so cycles others after runs =
      subst (λ (ls : List PlacedLine). IsServedRun wiring service cards ls after)
      (ap (λ (ls : List PlacedLine). lines ++ (ls ++ others)) (sym is) ∙ sym (append_assoc lines placed others))
      (so (cycle ∷ cycles) (line_of new ++ others) after (new, mid, others, due, run, runs, refl))

  pub run_step : (now ready : InRun) (counts mid : Counts) (lines placed : List PlacedLine) (cycle : Cycle) (new : MachineState)
      → made_ready cycle now ≡ ready → cycle_due now.machine ≡ Some cycle
      → CycleInRounds wiring service cycle ready.machine new counts mid
      → placed ≡ line_of new → RunSoFar now counts lines
      → RunSoFar (record { machine = new; hopper = ready.hopper }) mid (lines ++ placed)
  run_step now ready counts mid lines placed cycle new is due run placed_is so =
      subst
      (λ (r : InRun). CycleInRounds wiring service cycle r.machine new counts mid
      → RunSoFar (record { machine = new; hopper = r.hopper }) mid (lines ++ placed)) is
      (λ ran. run_more now counts mid lines placed cycle new due ran placed_is so) run

  pub run_all : (now : InRun) (counts : Counts) (lines : List PlacedLine) → cycle_due now.machine ≡ None → RunSoFar now counts lines
      → IsServedRun wiring service cards lines counts
  unfolding RunsInRounds
  run_all now counts lines due so =
      subst (λ (ls : List PlacedLine). IsServedRun wiring service cards ls counts) (none_more lines)
      (so [] [] counts (due, refl, refl))
    where
      none_more : (ls : List PlacedLine) → ls ++ [] ≡ ls
      none_more [] = refl
      none_more (l ∷ ls) = ap (λ (rest : List PlacedLine). l ∷ rest) (none_more ls)
