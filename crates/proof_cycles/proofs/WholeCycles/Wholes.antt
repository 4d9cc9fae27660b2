-- A cycle, point by point, is a whole cycle.
use Rattle.std.proofs.Common.{◌≡◌, ◌∙◌, ap, refl, sym, subst, ℕ, zero, suc, Bool, ◌∷◌, map}
use Rattle.card_code.specs.Rows.{rows}
use Rattle.machine.specs.Below.carriage.Carriage.{CarriageState, carriage_ended}
use Rattle.counters.specs.Counters.{counter_ended}
use Rattle.counters.specs.WholeCycles.{after_its_points}
use Rattle.hubs.specs.SetupsWords.Wiring.{Wiring}
use Rattle.hubs.specs.declared.hub.Hub.{Hub}
use Rattle.net.specs.Cycles.{points}
use Rattle.net.specs.Impulsed.{IsPicture}
use Rattle.net.specs.declared.cycle.Cycle.{Cycle}
use Rattle.net.specs.declared.cycle.Cycle.TheVariants.{RunIn}
use Rattle.net.specs.declared.cycle.Point.{Point}
use Rattle.net.specs.declared.cycle.Point.TheVariants.{C, Row, K}
use Rattle.machine.specs.Below.print_unit.Wheels.{WheelsState, emptied}
use Rattle.machine.specs.Below.print_unit.ZeroControl.{printed_line, has_zero_control}
use Rattle.machine.specs.Below.program_unit.Program.{ProgramState, program_sensed, program_ended}
use Rattle.machine.specs.Below.selectors.Indicate.{Latches, indicate_ended}
use Rattle.machine.specs.Below.selectors.Pilots.{PilotStates, pilots_ended}
use Rattle.machine.specs.Below.storage_units.Storage.{storage_ended}
use Rattle.machine.specs.Cycles.{Reached}
use Rattle.machine.specs.Machine.{MachineState, emits, closes, sensed, ended}
use Rattle.machine.proofs.Pictures.{IsPicture-same}
use Rattle.proof_cycles.specs.WholeCycles.Between.{IsBetween}
use Rattle.proof_cycles.specs.WholeCycles.Laws.{CyclesAreWhole}
use Rattle.proof_cycles.specs.WholeCycles.WholeCycles.{WholeCycle, all_closing_emits, closing_closes, control_emits, row_emits}
use Rattle.proof_cycles.proofs.WholeCycles.Emitted.{emits-control, emits-row, emits-closing, closes-before, closes-closing}
use Rattle.proof_cycles.proofs.WholeCycles.Parts.{Parts, parts, map-both, machine_after, group_after, unit_after, program_after}
use Rattle.proof_cycles.proofs.WholeCycles.Walks.{IsWalked, Walk, rows_before, walked}
use Rattle.proof_cycles.proofs.WholeCycles.Wheels.{wheels-collected, wheels-emptied}

-- A cycle as a whole, and its counter groups behind its points.
pub record IsBehind (wiring : Wiring) (cycle : Cycle) (old behind : MachineState) : Type 0 where
  pub all : WholeCycle wiring cycle old (ended behind cycle)
  pub groups : behind.groups ≡ map (after_its_points cycle all.pictures) old.groups

-- what a machine senses, and the picture that it has
abbrev pub senses : Cycle → MachineState → Point → (Hub → Bool) → MachineState
senses cycle machine point picture = sensed machine cycle point picture

abbrev pub HasPicture : Wiring → Cycle → MachineState → Point → (Hub → Bool) → Type 0
HasPicture wiring cycle machine point picture =
    IsPicture wiring (emits machine cycle point) (closes machine cycle point) picture

-- the points of a cycle are a walk
pub walk_of : (wiring : Wiring) (cycle : Cycle) (place : ℕ) (old now : MachineState)
    → Reached wiring cycle place old now → Walk (senses cycle) (HasPicture wiring cycle) place old now
unfolding Reached Walk
walk_of wiring cycle zero old now same = same
walk_of wiring cycle (suc place) old now (mid, reached, step) = (
  mid,
  walk_of wiring cycle place old mid reached,
  record { picture = step.picture; has = step.is_picture; is_new = step.is_new },
)

-- the program unit senses at the closing point alone
program-closing : (cycle : Cycle) (pictures : Point → Hub → Bool) (program : ProgramState)
    → program_after cycle pictures points program ≡ program_sensed program cycle K (pictures K)
program-closing RunIn pictures program = refl
program-closing other pictures program = refl

pub whole-behind : (wiring : Wiring) (cycle : Cycle) (old behind : MachineState) → IsBetween old → Reached wiring cycle 14 old behind
    → IsBehind wiring cycle old behind
whole-behind wiring cycle old behind between reached =
    let is : IsWalked (senses cycle) (HasPicture wiring cycle) old behind =
    walked (senses cycle) (HasPicture wiring cycle) old behind (walk_of wiring cycle 14 old behind reached) in
    let pictures : Point → Hub → Bool = is.pictures in
    let part : Parts cycle pictures points old (machine_after cycle pictures points old) = parts cycle pictures points old in
    let end : ended behind cycle ≡ ended (machine_after cycle pictures points old) cycle =
    ap (λ (m : MachineState). ended m cycle) is.reached in
    record {
      all = record {
        pictures = pictures;
        control =
            IsPicture-same wiring (emits old cycle C) (control_emits cycle) (closes old cycle C) (closes old cycle C) (pictures C)
            (emits-control old cycle) (λ hub. refl) is.control;
        rows = λ row.
            let before = machine_after cycle pictures (C ∷ map Row (rows_before row)) old in
            IsPicture-same wiring (emits before cycle (Row row)) (row_emits old pictures cycle row) (closes before cycle (Row row))
            (closes old cycle (Row row)) (pictures (Row row)) (emits-row old cycle pictures (rows_before row) row)
            (λ hub. closes-before old cycle pictures (C ∷ map Row (rows_before row)) (Row row) hub refl) (is.at_rows row);
        closing =
            let before = machine_after cycle pictures (C ∷ map Row rows) old in
            IsPicture-same wiring (emits before cycle K) (all_closing_emits old pictures cycle) (closes before cycle K)
            (closing_closes old pictures cycle) (pictures K) (λ hub. emits-closing old cycle pictures hub between.comparing)
            (closes-closing old cycle pictures) is.closing;
        stations = ap (λ (m : MachineState). m.stations) end ∙ part.stations;
        comparing = ap (λ (m : MachineState). m.comparing) end;
        groups =
            ap (λ (m : MachineState). m.groups) end
            ∙ ap (map (λ group. counter_ended group cycle)) part.groups
            ∙ map-both (group_after cycle pictures points) (λ group. counter_ended group cycle) old.groups;
        storage =
            ap (λ (m : MachineState). m.storage) end
            ∙ ap (map (λ storage. storage_ended storage cycle)) part.storage
            ∙ map-both (unit_after cycle pictures points) (λ storage. storage_ended storage cycle) old.storage;
        pilots =
            ap (λ (m : MachineState). m.pilots) end ∙ ap (λ (p : PilotStates). pilots_ended p cycle) part.pilots;
        indicate =
            ap (λ (m : MachineState). m.indicate) end ∙ ap (λ (l : Latches). indicate_ended l cycle) part.indicate;
        splits = ap (λ (m : MachineState). m.splits) end ∙ part.splits;
        emitters = ap (λ (m : MachineState). m.emitters) end ∙ part.emitters;
        wheels =
            ap (λ (m : MachineState). m.wheels.wheels) end
            ∙ ap (λ (w : WheelsState). map emptied w.wheels) part.wheels
            ∙ wheels-emptied cycle pictures points old.wheels;
        line =
            ap (λ (m : MachineState). m.wheels.line) end
            ∙ ap (λ (w : WheelsState). printed_line (has_zero_control cycle) w.wheels) part.wheels
            ∙ ap (printed_line (has_zero_control cycle))
            (wheels-collected cycle pictures old.wheels between.many_wheels between.wheels);
        carriage =
            ap (λ (m : MachineState). m.carriage) end ∙ ap (λ (c : CarriageState). carriage_ended c cycle) part.carriage;
        program =
            ap (λ (m : MachineState). m.program) end
            ∙ ap (λ (p : ProgramState). program_ended p cycle)
            (part.program ∙ program-closing cycle pictures old.program);
      };
      groups = ap (λ (m : MachineState). m.groups) is.reached ∙ part.groups;
    }

pub cycles-whole : CyclesAreWhole
cycles-whole wiring cycle old new between run =
    subst (λ (m : MachineState). WholeCycle wiring cycle old m) (sym run.is_new)
    (whole-behind wiring cycle old run.at_end between run.reached).all
