-- A machine is ready for each cycle of a run.
use Rattle.std.proofs.Common.{sym, subst, ℕ, List, [], ◌∷◌, Some}
use Rattle.page_text.specs.declared.placed_lines.placed_line.PlacedLine.{PlacedLine}
use Rattle.hubs.specs.SetupsWords.Wiring.{Wiring}
use Rattle.net.specs.declared.cycle.Cycle.{Cycle}
use Rattle.machine.specs.Feeds.{Fed, FedLines, taken}
use Rattle.machine.specs.Kept.{Steps}
use Rattle.machine.specs.Kept.Steps.{none, more}
use Rattle.machine.specs.Machine.{MachineState, machine_at_start}
use Rattle.proof_cycles.specs.WholeCycles.Between.{IsReady}
use Rattle.proof_cycles.proofs.WholeCycles.Ready.{machines-ready, ready-begun, ready-taken}
use Rattle.explain_wheels.specs.ExplanationsWords.PlacedInRun.{PlacedInRun, machine_before}

ready-fed : (wiring : Wiring) (old : MachineState) (cards : List (List ℕ)) (new : MachineState) (lines : List PlacedLine)
    → IsReady wiring old → FedLines wiring old cards new lines → IsReady wiring new
unfolding FedLines
ready-fed wiring old [] new lines ready (same, no_lines) = subst (λ (m : MachineState). IsReady wiring m) (sym same) ready
ready-fed wiring old (card ∷ cards) new lines ready (mid, first, others, feeds, fed, is) =
    ready-fed wiring mid cards new others (machines-ready.feeds wiring old (Some card) mid first ready feeds) fed

ready-steps : (wiring : Wiring) (start : Fed) → IsReady wiring start.machine → {now : Fed} → Steps wiring start now
    → IsReady wiring now.machine
ready-steps wiring start ready none = ready
ready-steps wiring start ready (more cycle mid now steps step) =
    machines-ready.kept wiring cycle (taken cycle mid).machine now.machine
    (ready-taken wiring cycle mid (ready-steps wiring start ready steps)) step.ran

-- so it is before the cycle that placed a line
pub ready-before : (wiring : Wiring) (deck : List (List ℕ)) (cards : ℕ) (cycle : Cycle) (line : PlacedLine)
    (run : PlacedInRun wiring deck cards cycle line) → IsReady wiring (machine_before run)
ready-before wiring deck cards cycle line run =
    ready-taken wiring cycle run.before
    (ready-steps wiring _ (ready-begun wiring _ run.machine
    (ready-fed wiring (machine_at_start wiring) _ run.machine run.lines (machines-ready.start wiring) run.fed)) run.steps)
