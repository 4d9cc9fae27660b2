-- A cycle by any schedule is a cycle of the machine, and so a run by schedules is a run of the machine.
use Rattle.std.proofs.Common.{◌≡◌, ◌∙◌, ap, sym, refl, ℕ, zero, suc, ◌+◌, Bool, List, [], ◌∷◌, map, subst}
use Rattle.std.proofs.Math.Numerals.{add-one}
use Rattle.std.proofs.lemmas.Simd.{map-map}
use Rattle.hubs.specs.declared.hub.Hub.{Hub}
use Rattle.machine.proofs.OneOutcome.{CycleRun-one}
use Rattle.machine.specs.Cycles.{CycleRun, Reached, point_at}
use Rattle.machine.specs.Machine.{MachineState, closes, emits, ended, machine_at_start, sensed}
use Rattle.machine.specs.Runs.{InRun, RunsBy, cards_moved, made_ready, run_at_start}
use Rattle.net.proofs.EachPicture.{each_picture}
use Rattle.net.specs.Impulsed.{IsPicture}
use Rattle.net.specs.declared.cycle.Cycle.{Cycle}
use Rattle.net.specs.declared.cycle.Cycle.TheVariants.{RunIn, Card, Prog, Head}
use Rattle.page_text.specs.declared.placed_lines.placed_line.PlacedLine.{PlacedLine}
use Rattle.machine_served.proofs.ServedWords.FirstPass.{impulsed_grows}
use Rattle.machine_served.proofs.ServedWords.Kept.{schedules_end}
use Rattle.machine_served.proofs.ServedWords.SomeSteps.{units_go}
use Rattle.machine_served.specs.ServedWords.Cycles.{IsAtOnce}
use Rattle.machine_served.specs.ServedWords.Laws.{GoesBySteps}
use Rattle.machine_served.specs.ServedWords.Steps.{Starts}
use Rattle.machine_served.specs.ServedWords.Units.{IsUnit}
use Rattle.machine_served.proofs.ServedUnits.AnyUnitKeeps.{any_unit_keeps}
use Rattle.machine_served.proofs.ServedUnits.Listed.{ended-in_order, same_by_number, sensed-in_order, unit_at-number, unit_at-sensed, units_by_number, units_close, units_emit, units_ended}
use Rattle.machine_served.proofs.ServedUnits.SameUnits.{same_units}
use Rattle.machine_served.specs.ServedUnits.AnyUnit.{AnyUnit, AreInOrder, any_ended, any_kind, unit_at, unit_numbers, units_of}
use Rattle.machine_served.specs.ServedUnits.Laws.{ServedCyclesAreCycles, ServedRunsPrintTheSame}
use Rattle.machine_served.specs.ServedUnits.Runs.{ServedCycle}
use Rattle.hubs.specs.SetupsWords.Wiring.{Wiring}

-- the picture of the same exits and contacts is the same
same_picture : (wiring : Wiring) (exits closed others also picture : Hub → Bool) → ((hub : Hub) → others hub ≡ exits hub)
    → ((hub : Hub) → also hub ≡ closed hub) → IsPicture wiring exits closed picture → IsPicture wiring others also picture
same_picture wiring exits closed others also picture same_exits same_closed is hub = (
  λ on.
      impulsed_grows wiring exits closed others also (λ exit on. same_exits exit ∙ on) (λ contact on. same_closed contact ∙ on)
      ((is hub).0 on),
  λ impulsed.
      (is hub).1
      (impulsed_grows wiring others also exits closed (λ exit on. sym (same_exits exit) ∙ on)
      (λ contact on. sym (same_closed contact) ∙ on) impulsed),
)

module _ (wiring : Wiring) (cycle : Cycle) (old : MachineState) (ordered : AreInOrder old) where
  -- the machine before the point with each place, where all units act at once
  picture_of : MachineState → ℕ → Hub → Bool
  picture_of machine place =
      (each_picture wiring (emits machine cycle (point_at place)) (closes machine cycle (point_at place))).0

  is_picture_of : (machine : MachineState) (place : ℕ)
      → IsPicture wiring (emits machine cycle (point_at place)) (closes machine cycle (point_at place)) (picture_of machine place)
  unfolding picture_of
  is_picture_of machine place =
      (each_picture wiring (emits machine cycle (point_at place)) (closes machine cycle (point_at place))).1

  machine_before : ℕ → MachineState
  machine_before zero = old
  machine_before (suc place) =
      sensed (machine_before place) cycle (point_at place) (picture_of (machine_before place) place)

  before_start : machine_before 0 ≡ old
  unfolding machine_before
  before_start = refl

  before_next : (place : ℕ)
      → machine_before (place + 1)
      ≡ sensed (machine_before place) cycle (point_at place) (picture_of (machine_before place) place)
  unfolding machine_before
  before_next place = ap machine_before (add-one place)

  reached : (place : ℕ) → Reached wiring cycle place old (machine_before place)
  unfolding machine_before Reached
  reached zero = refl
  reached (suc place) = (
    machine_before place,
    reached place,
    record {
      picture = picture_of (machine_before place) place;
      is_picture = is_picture_of (machine_before place) place;
      is_new = refl;
    },
  )

  before_ordered : (place : ℕ) → AreInOrder (machine_before place)
  unfolding machine_before
  before_ordered zero = ordered
  before_ordered (suc place) =
      sensed-in_order (machine_before place) cycle (point_at place) (picture_of (machine_before place) place)
      (before_ordered place)

  at_once : IsAtOnce any_kind wiring cycle 45 (λ place. unit_at (machine_before place))
  at_once = record {
    numbered = unit_at-number (machine_before 0) (before_ordered 0);
    pictures = λ place. picture_of (machine_before place) place;
    are_pictures = λ place low.
        same_picture wiring _ _ _ _ (picture_of (machine_before place) place)
        (units_emit (machine_before place) (before_ordered place) cycle (point_at place))
        (units_close (machine_before place) (before_ordered place) cycle (point_at place))
        (is_picture_of (machine_before place) place);
    sensed = λ place unit low is.
        ap (λ (machine : MachineState). unit_at machine unit) (before_next place)
        ∙ unit_at-sensed (machine_before place) cycle (point_at place) (picture_of (machine_before place) place)
        (before_ordered place) unit is;
  }

  -- the units at the end, by a schedule and at once
  same_ends : (goes : GoesBySteps any_kind wiring cycle 45 (unit_at old))
      → map (λ unit. any_ended (goes.last.units unit) cycle) unit_numbers ≡ units_of (ended (machine_before 14) cycle)
  same_ends goes =
      same_by_number (λ unit. any_ended (goes.last.units unit) cycle)
      (λ unit. any_ended (unit_at (machine_before 14) unit) cycle)
      (λ unit is. ap (λ (one : AnyUnit). any_ended one cycle) (last_there unit is))
      ∙ sym (map-map (λ one. any_ended one cycle) (unit_at (machine_before 14)) unit_numbers)
      ∙ ap (map (λ one. any_ended one cycle)) (units_by_number (machine_before 14) (before_ordered 14))
      ∙ sym (units_ended (machine_before 14) cycle)
    where
      starts : Starts any_kind cycle 45 (unit_at (machine_before 0)) goes.start
      starts =
          subst (λ (machine : MachineState). Starts any_kind cycle 45 (unit_at machine) goes.start) (sym before_start)
          goes.starts

      last_there : (unit : ℕ) → IsUnit 45 unit → goes.last.units unit ≡ unit_at (machine_before 14) unit
      last_there =
          schedules_end AnyUnit any_kind wiring cycle 45 (λ place. unit_at (machine_before place)) goes.steps goes.start
          goes.last any_unit_keeps at_once starts goes.taken goes.over

  cycle_at_once : CycleRun wiring cycle old (ended (machine_before 14) cycle)
  cycle_at_once = record { at_end = machine_before 14; reached = reached 14; is_new = refl }

  cycle_of_served : (new : MachineState) → ServedCycle wiring cycle old new → CycleRun wiring cycle old new
  cycle_of_served new served = record {
    at_end = machine_before 14;
    reached = reached 14;
    is_new = same_units new (ended (machine_before 14) cycle) (served.ended ∙ same_ends served.served);
  }

  served_of_cycle : (new : MachineState) → CycleRun wiring cycle old new → ServedCycle wiring cycle old new
  served_of_cycle new run =
      let goes = units_go AnyUnit any_kind wiring cycle 45 (unit_at old) in
      record {
        served = goes;
        ended =
            ap units_of (CycleRun-one wiring cycle old new (ended (machine_before 14) cycle) run cycle_at_once)
            ∙ sym (same_ends goes);
      }

  pub stays_ordered : (new : MachineState) → CycleRun wiring cycle old new → AreInOrder new
  stays_ordered new run =
      subst AreInOrder (CycleRun-one wiring cycle old (ended (machine_before 14) cycle) new cycle_at_once run)
      (ended-in_order (machine_before 14) cycle (before_ordered 14))

pub served_cycles_are : ServedCyclesAreCycles
served_cycles_are wiring cycle old new ordered =
    (cycle_of_served wiring cycle old ordered new, served_of_cycle wiring cycle old ordered new)

-- cards that move on leave the units in their order
pub moved_ordered : (machine : MachineState) (cards : List (List ℕ)) → AreInOrder machine
    → AreInOrder (cards_moved machine cards).machine
moved_ordered machine [] ordered = ordered
moved_ordered machine (card ∷ cards) ordered = ordered

pub ready_ordered : (cycle : Cycle) (run : InRun) → AreInOrder run.machine → AreInOrder (made_ready cycle run).machine
ready_ordered RunIn run ordered = ordered
ready_ordered Card run ordered = moved_ordered run.machine run.hopper ordered
ready_ordered (Prog level ordinal) run ordered = ordered
ready_ordered (Head heading) run ordered = ordered

-- runs by cycles of one form are runs by cycles of another, where these follow and the units stay in their order
runs_moved : (one other : Cycle → MachineState → MachineState → Type 0)
    → ((cycle : Cycle) (old new : MachineState) → AreInOrder old → one cycle old new → other cycle old new)
    → ((cycle : Cycle) (old new : MachineState) → AreInOrder old → one cycle old new → AreInOrder new)
    → (cycles : List Cycle) (run : InRun) (lines : List PlacedLine) → AreInOrder run.machine → RunsBy one cycles run lines
    → RunsBy other cycles run lines
unfolding RunsBy
runs_moved one other follows stays [] run lines ordered runs = runs
runs_moved one other follows stays (cycle ∷ cycles) run lines ordered runs =
    let ready = ready_ordered cycle run ordered in (
      runs.0,
      runs.1,
      runs.2,
      follows cycle (made_ready cycle run).machine runs.0 ready runs.3,
      runs_moved one other follows stays cycles (record { machine = runs.0; hopper = (made_ready cycle run).hopper }) runs.1
          (stays cycle (made_ready cycle run).machine runs.0 ready runs.3) runs.4,
      runs.5,
    )

pub served_runs_print : ServedRunsPrintTheSame
served_runs_print wiring cards lines =
    let start = moved_ordered (machine_at_start wiring) cards refl in (
      λ served. (
        served.0,
        runs_moved (ServedCycle wiring) (CycleRun wiring)
            (λ cycle old new ordered run. cycle_of_served wiring cycle old ordered new run)
            (λ cycle old new ordered run.
            stays_ordered wiring cycle old ordered new (cycle_of_served wiring cycle old ordered new run))
            served.0 (run_at_start wiring cards) lines start served.1,
      ),
      λ run. (
        run.0,
        runs_moved (CycleRun wiring) (ServedCycle wiring)
            (λ cycle old new ordered run. served_of_cycle wiring cycle old ordered new run)
            (λ cycle old new ordered run. stays_ordered wiring cycle old ordered new run) run.0 (run_at_start wiring cards)
            lines start run.1,
      ),
    )
