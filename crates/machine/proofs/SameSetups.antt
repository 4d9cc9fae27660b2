-- Setups with the same wires, jacks and tape have the same runs.
use Rattle.std.proofs.Common.{◌≡◌, ℕ, zero, suc, inl, inr, Bool, true, false, List, [], ◌∷◌, None, map, replicate, sym, subst}
use Rattle.std.specs.List.{range_with_len}
use Rattle.carriage.specs.Asked.{nothing_asked}
use Rattle.page_text.specs.declared.placed_lines.placed_line.PlacedLine.{PlacedLine}
use Rattle.counters.specs.Counters.{counter_at_start}
use Rattle.hubs.proofs.SetupsWords.SameTapes.{SameTape-same}
use Rattle.hubs.specs.SetupsWords.Tapes.{IsCarriageTape, SameTape}
use Rattle.hubs.specs.SetupsWords.Wiring.{Wiring, SameWires, SameJacks}
use Rattle.hubs.specs.declared.hub.Hub.{Hub}
use Rattle.hubs.specs.declared.jack.Jack.TheVariants as jack
use Rattle.net.specs.Impulsed.{IsPicture, IsImpulsed, LeadsOn, emitting, led_on}
use Rattle.net.specs.Printing.{printing_of}
use Rattle.net.specs.declared.cycle.Cycle.{Cycle}
use Rattle.net.specs.declared.cycle.Point.{Point}
use Rattle.print_unit.specs.Emitters.{emitters_at_start}
use Rattle.print_unit.specs.Wheels.{wheels_at_start}
use Rattle.program_unit.specs.declared.stage.Stage.TheVariants.{Fresh}
use Rattle.selectors.specs.Indicate.{indicate_at_start}
use Rattle.selectors.specs.Pilots.{pilots_at_start}
use Rattle.stations.specs.Comparing.{comparing_at_start}
use Rattle.stations.specs.Stations.{stations_at_start}
use Rattle.storage_units.specs.Storage.{storage_at_start}
use Rattle.machine.specs.Cycles.{CycleRun, PointStep, Reached, point_at}
use Rattle.machine.specs.Machine.{MachineState, machine_at_start, group_units, storage_units, emits, closes}
use Rattle.machine.specs.Runs.{InRun, MachineLines, RunsBy, cards_moved, made_ready, run_at_start}

wire-same : (one other : Wiring) → SameWires one other → (closed : Hub → Bool) (from to : Hub)
    → LeadsOn one closed from to → LeadsOn other closed from to
wire-same one other wires closed from to (inl wire) = inl ((wires from to).1 wire)
wire-same one other wires closed from to (inr contact) = inr contact

impulsed-same : (one other : Wiring) → SameWires one other → (exits closed : Hub → Bool) → {hub : Hub}
    → IsImpulsed one exits closed hub → IsImpulsed other exits closed hub
impulsed-same one other wires exits closed (emitting hub inside emits) = emitting hub inside emits
impulsed-same one other wires exits closed (led_on from to is leads) =
    led_on from to (impulsed-same one other wires exits closed is) (wire-same one other wires closed from to leads)

turned : (one other : Wiring) → SameWires one other → SameWires other one
turned one other wires exit entry = ((wires exit entry).1, (wires exit entry).0)

picture-same : (one other : Wiring) → SameWires one other → (exits closed picture : Hub → Bool)
    → IsPicture one exits closed picture → IsPicture other exits closed picture
picture-same one other wires exits closed picture is hub =
    let back = turned one other wires in (
      λ on. impulsed-same one other wires exits closed ((is hub).0 on),
      λ impulsed. (is hub).1 (impulsed-same other one back exits closed impulsed),
    )

PointStep-same : (one other : Wiring) → SameWires one other → (cycle : Cycle) (point : Point) (old new : MachineState)
    → PointStep one cycle point old new → PointStep other cycle point old new
PointStep-same one other wires cycle point old new step = record {
  picture = step.picture;
  is_picture =
      picture-same one other wires (emits old cycle point) (closes old cycle point) step.picture step.is_picture;
  is_new = step.is_new;
}

Reached-same : (one other : Wiring) → SameWires one other → (cycle : Cycle) (place : ℕ) (old now : MachineState)
    → Reached one cycle place old now → Reached other cycle place old now
unfolding Reached
Reached-same one other wires cycle zero old now same = same
Reached-same one other wires cycle (suc place) old now (mid, reached, step) =
    (mid, Reached-same one other wires cycle place old mid reached, PointStep-same one other wires cycle (point_at place) mid now step)

CycleRun-same : (one other : Wiring) → SameWires one other → (cycle : Cycle) (old new : MachineState)
    → CycleRun one cycle old new → CycleRun other cycle old new
CycleRun-same one other wires cycle old new ran = record {
  at_end = ran.at_end;
  reached = Reached-same one other wires cycle 14 old ran.at_end ran.reached;
  is_new = ran.is_new;
}

-- a run by one relation is a run by another that holds where the first does
pub RunsBy-also : (One Other : Cycle → MachineState → MachineState → Type 0)
    → ((cycle : Cycle) (old new : MachineState) → One cycle old new → Other cycle old new)
    → (cycles : List Cycle) (run : InRun) (lines : List PlacedLine) → RunsBy One cycles run lines → RunsBy Other cycles run lines
unfolding RunsBy
RunsBy-also One Other also [] run lines ends = ends
RunsBy-also One Other also (cycle ∷ cycles) run lines (new, others, due, ran, runs, is) = (
  new,
  others,
  due,
  also cycle (made_ready cycle run).machine new ran,
  RunsBy-also One Other also cycles (record { machine = new; hopper = (made_ready cycle run).hopper }) others runs,
  is,
)

printing-same : (one other : Wiring) → SameJacks one other → printing_of one ≡ printing_of other
printing-same one other jacks = λ i. record {
  cards = sym (jacks jack.List) i;
  minor_totals = sym (jacks (jack.Total 1)) i;
  intermediate_totals = sym (jacks (jack.Total 2)) i;
  major_totals = sym (jacks (jack.Total 3)) i;
  final_totals = sym (jacks (jack.Total 4)) i;
  first_heading = sym (jacks (jack.Head 1)) i;
  second_heading = sym (jacks (jack.Head 2)) i;
  third_heading = sym (jacks (jack.Head 3)) i;
}

wheels-same : (one other : Wiring) → SameJacks one other → wheels_at_start one ≡ wheels_at_start other
wheels-same one other jacks = λ i. record {
  wheels =
      map
      (λ v. record {
        received = replicate 12 false;
        link = sym (jacks (jack.Link v)) i;
        suppress = sym (jacks (jack.Suppress v)) i;
        symbol = sym (jacks (jack.Symbol v)) i;
      })
      (range_with_len 1 120);
  line = replicate 120 32;
}

start-same : (one other : Wiring) → SameJacks one other → one.tape ≡ other.tape
    → machine_at_start one ≡ machine_at_start other
start-same one other jacks tape = λ i. record {
  stations = stations_at_start;
  comparing = comparing_at_start;
  groups = map counter_at_start group_units;
  storage = map storage_at_start storage_units;
  pilots = pilots_at_start;
  indicate = indicate_at_start;
  splits = record {};
  emitters = emitters_at_start;
  wheels = wheels-same one other jacks i;
  carriage = record {
    form = tape i;
    printing = printing-same one other jacks i;
    spot = record { page = 0; line = 0; latch = true };
    asked = nothing_asked;
    printed = None;
  };
  program = record { printing = printing-same one other jacks i; stage = Fresh; highest = None };
}

-- setups with the same wires, jacks and tape have the same lines
pub MachineLines-same : (one other : Wiring) (cards : List (List ℕ)) (lines : List PlacedLine)
    → IsCarriageTape one.tape → IsCarriageTape other.tape
    → SameWires one other → SameJacks one other → SameTape one.tape other.tape
    → MachineLines one cards lines → MachineLines other cards lines
MachineLines-same one other cards lines form also wires jacks tape (cycles, runs) =
    let same : one.tape ≡ other.tape = SameTape-same one.tape other.tape form also tape in (
      cycles,
      subst (λ (m : MachineState). RunsBy (CycleRun other) cycles (cards_moved m cards) lines)
          (start-same one other jacks same)
          (RunsBy-also (CycleRun one) (CycleRun other) (CycleRun-same one other wires) cycles (run_at_start one cards) lines runs),
    )
