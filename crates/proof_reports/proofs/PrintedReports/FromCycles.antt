-- What whole cycles leave of the units that know no chart.
use Rattle.std.proofs.Common.{◌≡◌, ◌∙◌, refl, ap, Bool, false}
use Rattle.proof_reports.specs.Below.hubs.SetupsWords.Wiring.{Wiring}
use Rattle.proof_reports.specs.Below.machine.Cycles.{CycleRun}
use Rattle.proof_reports.specs.Below.machine.Machine.{MachineState}
use Rattle.proof_reports.specs.Below.net.declared.cycle.Cycle.{Cycle}
use Rattle.proof_reports.specs.Below.net.declared.cycle.Cycle.TheVariants.{RunIn, Card, Prog, Head}
use Rattle.proof_reports.specs.Below.net.declared.cycle.Point.TheVariants.{K}
use Rattle.proof_reports.specs.Below.hubs.declared.hub.Hub.{Hub}
use Rattle.program_unit.specs.Program.{ProgramState, program_ended, program_sensed}
use Rattle.program_unit.specs.declared.stage.Stage.TheVariants.{RanCard}
use Rattle.proof_cycles.proofs.WholeCycles.Wholes.{cycles-whole}
use Rattle.proof_cycles.specs.WholeCycles.Between.{IsReady}
use Rattle.proof_cycles.specs.WholeCycles.WholeCycles.{WholeCycle}
use Rattle.proof_reports.proofs.WiredPanels.Contacts.{is_card_cycle}

-- a cycle of a machine that is ready, as a whole
pub whole : (wiring : Wiring) (cycle : Cycle) (old new : MachineState) → IsReady wiring old → CycleRun wiring cycle old new
    → WholeCycle wiring cycle old new
whole wiring cycle old new is run = cycles-whole wiring cycle old new is.between run

-- the jacks that print stay
same_printing : (program : ProgramState) (cycle : Cycle) (picture : Hub → Bool)
    → (program_ended (program_sensed program cycle K picture) cycle).printing ≡ program.printing
same_printing program RunIn picture = refl
same_printing program Card picture = refl
same_printing program (Prog level ordinal) picture = refl
same_printing program (Head heading) picture = refl

pub printing_stays : (wiring : Wiring) (cycle : Cycle) (old new : MachineState) → IsReady wiring old → CycleRun wiring cycle old new
    → new.program.printing ≡ old.program.printing
printing_stays wiring cycle old new is run =
    let all = whole wiring cycle old new is run in
    ap (λ p. p.printing) all.program ∙ same_printing old.program cycle (all.pictures K)

-- the program unit senses nothing in cycles that are no card cycles
unsensed : (program : ProgramState) (cycle : Cycle) (picture : Hub → Bool) → is_card_cycle cycle ≡ false
    → program_ended (program_sensed program cycle K picture) cycle ≡ program_ended program cycle
unsensed program RunIn picture other = refl
unsensed program Card picture other = cc
unsensed program (Prog level ordinal) picture other = refl
unsensed program (Head heading) picture other = refl

pub program_goes : (wiring : Wiring) (cycle : Cycle) (old new : MachineState) → IsReady wiring old → CycleRun wiring cycle old new
    → is_card_cycle cycle ≡ false → new.program ≡ program_ended old.program cycle
program_goes wiring cycle old new is run other =
    let all = whole wiring cycle old new is run in
    all.program ∙ unsensed old.program cycle (all.pictures K) other

pub card_stage : (wiring : Wiring) (old new : MachineState) → IsReady wiring old → CycleRun wiring Card old new
    → new.program.stage ≡ RanCard
card_stage wiring old new is run = ap (λ p. p.stage) (whole wiring Card old new is run).program
