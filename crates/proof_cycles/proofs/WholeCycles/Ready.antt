-- A machine starts ready, and stays so from cycle to cycle and from feed to feed.
use Rattle.std.proofs.Common.{◌≡◌, ◌∙◌, sym, ap, refl, ℕ, Bool, true, false, List, [], ◌∷◌, Option, map, subst, if◌then◌else◌}
use Rattle.std.specs.List.{range_with_len}
use Rattle.machine.specs.Below.carriage.Carriage.{CarriageState}
use Rattle.machine.specs.Below.page_text.declared.placed_lines.placed_line.PlacedLine.{PlacedLine}
use Rattle.hubs.specs.SetupsWords.Wiring.{Wiring}
use Rattle.hubs.specs.declared.hub.Hub.{Hub}
use Rattle.net.specs.declared.cycle.Cycle.{Cycle}
use Rattle.net.specs.declared.cycle.Cycle.TheVariants.{RunIn, Card, Prog, Head}
use Rattle.net.specs.declared.cycle.Point.TheVariants.{K}
use Rattle.machine.specs.Below.print_unit.Wheels.{emptied, wheel_at_start}
use Rattle.machine.specs.Below.program_unit.CycleOrder.{is_fresh}
use Rattle.machine.specs.Below.program_unit.Program.{ProgramState, program_ended, program_sensed}
use Rattle.machine.specs.Cycles.{CycleRun}
use Rattle.machine.specs.Feeds.{Fed, FeedRuns, FeedStep, begun, taken}
use Rattle.machine.specs.Machine.{MachineState, machine_at_start}
use Rattle.machine.specs.Runs.{moved_on}
use Rattle.proof_cycles.specs.WholeCycles.Between.{IsReady, IsSetUp}
use Rattle.proof_cycles.specs.WholeCycles.Laws.{MachinesStayReady}
use Rattle.proof_cycles.specs.WholeCycles.WholeCycles.{WholeCycle}
use Rattle.proof_cycles.proofs.WholeCycles.Parts.{map-both}
use Rattle.proof_cycles.proofs.WholeCycles.Staying.{starts, stays}
use Rattle.proof_cycles.proofs.WholeCycles.Wholes.{cycles-whole}

ready-start : (wiring : Wiring) → IsReady wiring (machine_at_start wiring)
ready-start wiring = record {
  between = starts wiring;
  set_up = record {
    wheels = refl;
    form = refl;
    carriage_prints = refl;
    program_prints = refl;
  };
}

-- the program unit keeps which cycles print
pub program-prints : (program : ProgramState) (cycle : Cycle) (picture : Hub → Bool)
    → (program_ended (program_sensed program cycle K picture) cycle).printing ≡ program.printing
program-prints program RunIn picture = refl
program-prints program other picture = refl

-- a whole cycle leaves what the setup fixes
set_up-kept : (wiring : Wiring) (cycle : Cycle) (old new : MachineState)
    → IsSetUp wiring old → WholeCycle wiring cycle old new → IsSetUp wiring new
set_up-kept wiring cycle old new is whole = record {
  wheels =
      whole.wheels ∙ ap (map emptied) is.wheels ∙ map-both (wheel_at_start wiring) emptied (range_with_len 1 120);
  form = ap (λ (c : CarriageState). c.form) whole.carriage ∙ is.form;
  carriage_prints = ap (λ (c : CarriageState). c.printing) whole.carriage ∙ is.carriage_prints;
  program_prints =
      ap (λ (p : ProgramState). p.printing) whole.program
      ∙ program-prints old.program cycle (whole.pictures K) ∙ is.program_prints;
}

ready-kept : (wiring : Wiring) (cycle : Cycle) (old new : MachineState)
    → IsReady wiring old → CycleRun wiring cycle old new → IsReady wiring new
ready-kept wiring cycle old new ready run =
    let whole = cycles-whole wiring cycle old new ready.between run in
    record {
      between = stays wiring cycle old new ready.between whole;
      set_up = set_up-kept wiring cycle old new ready.set_up whole;
    }

-- nothing of this hangs on the cards
pub ready-moved : (wiring : Wiring) (next : Option (List ℕ)) (machine : MachineState)
    → IsReady wiring machine → IsReady wiring (moved_on next machine)
ready-moved wiring next machine ready = record {
  between = record {
    comparing = ready.between.comparing;
    ordered = ready.between.ordered;
    groups = ready.between.groups;
    numbered = ready.between.numbered;
    storage = ready.between.storage;
    transferred = ready.between.transferred;
    picked_up = ready.between.picked_up;
    many_wheels = ready.between.many_wheels;
    wheels = ready.between.wheels;
  };
  set_up = record {
    wheels = ready.set_up.wheels;
    form = ready.set_up.form;
    carriage_prints = ready.set_up.carriage_prints;
    program_prints = ready.set_up.program_prints;
  };
}

pub ready-begun : (wiring : Wiring) (next : Option (List ℕ)) (machine : MachineState)
    → IsReady wiring machine → IsReady wiring (begun machine next).machine
ready-begun wiring next machine ready = by (is_fresh machine.program.stage)
  where
    by : (fresh : Bool)
        → let fed : Fed = if fresh
        then record { machine = moved_on next machine; waits = false; next = next }
        else record { machine = machine; waits = true; next = next } in
        IsReady wiring fed.machine
    by true = ready-moved wiring next machine ready
    by false = ready

pub ready-taken : (wiring : Wiring) (cycle : Cycle) (fed : Fed) → IsReady wiring fed.machine → IsReady wiring (taken cycle fed).machine
ready-taken wiring RunIn fed ready = ready
ready-taken wiring Card fed ready = ready-moved wiring fed.next fed.machine ready
ready-taken wiring (Prog level ordinal) fed ready = ready
ready-taken wiring (Head heading) fed ready = ready

ready-step : (wiring : Wiring) (cycle : Cycle) (old new : Fed)
    → IsReady wiring old.machine → FeedStep wiring cycle old new → IsReady wiring new.machine
ready-step wiring cycle old new ready step =
    ready-kept wiring cycle (taken cycle old).machine new.machine (ready-taken wiring cycle old ready) step.ran

ready-runs : (wiring : Wiring) (cycles : List Cycle) (fed : Fed) (new : MachineState) (lines : List PlacedLine)
    → IsReady wiring fed.machine → FeedRuns wiring cycles fed new lines → IsReady wiring new
unfolding FeedRuns
ready-runs wiring [] fed new lines ready (none, is, no_lines) =
    subst (λ (machine : MachineState). IsReady wiring machine) (sym is) ready
ready-runs wiring (cycle ∷ cycles) fed new lines ready (mid, others, step, runs, is) =
    ready-runs wiring cycles mid new others (ready-step wiring cycle fed mid ready step) runs

pub machines-ready : MachinesStayReady
machines-ready = record {
  start = ready-start;
  kept = ready-kept;
  feeds = λ wiring old next new lines ready feeds.
      ready-runs wiring feeds.cycles (begun old next) new lines (ready-begun wiring next old ready) feeds.runs;
}
