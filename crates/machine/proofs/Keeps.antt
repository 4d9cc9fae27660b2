-- What the points of a cycle leave as it was, and what a cycle does to cards, program unit and carriage.
use Rattle.std.proofs.Common.{◌≡◌, ℕ, zero, suc, Bool, true, false, if◌then◌else◌, List, [], ◌∷◌, refl, ap, ◌∙◌, arith}
use Rattle.carriage.specs.Asked.{asked_by}
use Rattle.carriage.specs.Carriage.{CarriageState, carriage_sensed, carriage_ended}
use Rattle.hubs.specs.SetupsWords.Wiring.{Wiring}
use Rattle.hubs.specs.declared.hub.Hub.{Hub}
use Rattle.hubs.specs.declared.hub.Hub.TheVariants.{SP}
use Rattle.net.specs.WholeCycles.{after_points}
use Rattle.net.specs.declared.cycle.Cycle.{Cycle}
use Rattle.net.specs.declared.cycle.Cycle.TheVariants.{RunIn, Card, Prog, Head}
use Rattle.net.specs.declared.cycle.Point.{Point}
use Rattle.net.specs.declared.cycle.Point.TheVariants.{C, Row, K}
use Rattle.program_unit.specs.Program.{ProgramState, program_sensed, stage_ended}
use Rattle.program_unit.specs.declared.stage.Stage.{Stage}
use Rattle.machine.specs.Ends.{EndsCycle}
use Rattle.machine.specs.Keeps.{AsksLines, Keeps, KeepsCarriage, KeepsProgram}
use Rattle.machine.specs.Machine.{MachineState, sensed, ended}
use Rattle.machine.specs.Cycles.{Reached, CycleRun, point_at}

pub program_sensed-keeps : (program : ProgramState) (cycle : Cycle) (point : Point) (picture : Hub → Bool)
    → KeepsProgram cycle program (program_sensed program cycle point picture)
program_sensed-keeps program RunIn point picture = record { printing = refl; stage = refl; highest = λ is. refl }
program_sensed-keeps program Card C picture = record { printing = refl; stage = refl; highest = λ is. refl }
program_sensed-keeps program Card (Row row) picture = record { printing = refl; stage = refl; highest = λ is. refl }
program_sensed-keeps program Card K picture = record { printing = refl; stage = refl; highest = λ is. cc }
program_sensed-keeps program (Prog level ordinal) point picture =
    record { printing = refl; stage = refl; highest = λ is. refl }
program_sensed-keeps program (Head heading) point picture = record { printing = refl; stage = refl; highest = λ is. refl }

pub asked_by-lines : (picture : Hub → Bool) → AsksLines (asked_by picture).lines
asked_by-lines picture = by (picture (SP 3)) (picture (SP 2))
  where
    by : (three two : Bool) → AsksLines (if three then 3 else if two then 2 else 1)
    by true two = record { from = omega arith; to = omega arith }
    by false true = record { from = omega arith; to = omega arith }
    by false false = record { from = omega arith; to = omega arith }

pub carriage_sensed-keeps : (carriage : CarriageState) (cycle : Cycle) (point : Point) (picture : Hub → Bool)
    → KeepsCarriage carriage (carriage_sensed carriage cycle point picture)
carriage_sensed-keeps carriage cycle C picture =
    record { form = refl; printing = refl; spot = refl; lines = λ asks. asked_by-lines picture }
carriage_sensed-keeps carriage cycle (Row row) picture =
    record { form = refl; printing = refl; spot = refl; lines = λ asks. asks }
carriage_sensed-keeps carriage cycle K picture =
    record { form = refl; printing = refl; spot = refl; lines = λ asks. asks }

pub Keeps-none : (cycle : Cycle) (old now : MachineState) → now ≡ old → Keeps cycle old now
Keeps-none cycle old now same = record {
  stations = ap (λ (m : MachineState). m.stations) same;
  program = record {
    printing = ap (λ (m : MachineState). m.program.printing) same;
    stage = ap (λ (m : MachineState). m.program.stage) same;
    highest = λ is. ap (λ (m : MachineState). m.program.highest) same;
  };
  carriage = record {
    form = ap (λ (m : MachineState). m.carriage.form) same;
    printing = ap (λ (m : MachineState). m.carriage.printing) same;
    spot = ap (λ (m : MachineState). m.carriage.spot) same;
    lines = λ asks. rw same asks;
  };
}

pub Keeps-both : (cycle : Cycle) (old mid now : MachineState) → Keeps cycle old mid → Keeps cycle mid now → Keeps cycle old now
Keeps-both cycle old mid now first second = record {
  stations = second.stations ∙ first.stations;
  program = record {
    printing = second.program.printing ∙ first.program.printing;
    stage = second.program.stage ∙ first.program.stage;
    highest = λ is. second.program.highest is ∙ first.program.highest is;
  };
  carriage = record {
    form = second.carriage.form ∙ first.carriage.form;
    printing = second.carriage.printing ∙ first.carriage.printing;
    spot = second.carriage.spot ∙ first.carriage.spot;
    lines = λ asks. second.carriage.lines (first.carriage.lines asks);
  };
}

pub sensed-keeps : (machine : MachineState) (cycle : Cycle) (point : Point) (picture : Hub → Bool)
    → Keeps cycle machine (sensed machine cycle point picture)
sensed-keeps machine cycle point picture = record {
  stations = refl;
  program = program_sensed-keeps machine.program cycle point picture;
  carriage = carriage_sensed-keeps machine.carriage cycle point picture;
}

Reached-keeps : (wiring : Wiring) (cycle : Cycle) (place : ℕ) (old now : MachineState)
    → Reached wiring cycle place old now → Keeps cycle old now
unfolding Reached
Reached-keeps wiring cycle zero old now same = Keeps-none cycle old now same
Reached-keeps wiring cycle (suc place) old now (mid, reached, step) =
    Keeps-both cycle old mid now (Reached-keeps wiring cycle place old mid reached)
    (Keeps-both cycle mid (sensed mid cycle (point_at place) step.picture) now
    (sensed-keeps mid cycle (point_at place) step.picture)
    (Keeps-none cycle (sensed mid cycle (point_at place) step.picture) now step.is_new))

-- What a cycle does to the cards and the program unit.
pub Keeps-ends : (cycle : Cycle) (old at_end new : MachineState)
    → Keeps cycle old at_end → new ≡ ended at_end cycle → EndsCycle cycle old new
Keeps-ends cycle old at_end new kept is_new = record {
  stations = ap (λ (m : MachineState). m.stations) is_new ∙ kept.stations;
  stage =
      ap (λ (m : MachineState). m.program.stage) is_new ∙ ap (λ (s : Stage). stage_ended s cycle) kept.program.stage;
  highest = λ is. ap (λ (m : MachineState). m.program.highest) is_new ∙ kept.program.highest is;
}

-- What a cycle does to cards, program unit and carriage.
pub record Ends (cycle : Cycle) (old new : MachineState) : Type 0 where
  pub order : EndsCycle cycle old new
  pub printing : new.program.printing ≡ old.program.printing
  pub at_end : CarriageState
  pub kept : KeepsCarriage old.carriage at_end
  pub carriage : new.carriage ≡ carriage_ended at_end cycle

pub CycleRun-ends : (wiring : Wiring) (cycle : Cycle) (old new : MachineState)
    → CycleRun wiring cycle old new → Ends cycle old new
CycleRun-ends wiring cycle old new run =
    let kept = Reached-keeps wiring cycle 14 old run.at_end run.reached in
    record {
      order = Keeps-ends cycle old run.at_end new kept run.is_new;
      printing = ap (λ (m : MachineState). m.program.printing) run.is_new ∙ kept.program.printing;
      at_end = run.at_end.carriage;
      kept = kept.carriage;
      carriage = ap (λ (m : MachineState). m.carriage) run.is_new;
    }

-- what the points of some rows leave
pub rows-keep : (cycle : Cycle) (pictures : Point → Hub → Bool) (list : List Point) (old : MachineState)
    → Keeps cycle old (after_points sensed cycle pictures list old)
rows-keep cycle pictures [] old = Keeps-none cycle old old refl
rows-keep cycle pictures (point ∷ others) old =
    Keeps-both cycle old (sensed old cycle point (pictures point))
    (after_points sensed cycle pictures others (sensed old cycle point (pictures point)))
    (sensed-keeps old cycle point (pictures point)) (rows-keep cycle pictures others (sensed old cycle point (pictures point)))
