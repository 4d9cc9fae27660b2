-- Where no two groups are joined, a machine runs as if carries were no impulses.
use Rattle.std.proofs.Common.{◌≡◌, ◌∙◌, refl, sym, ap, subst, ℕ, ◌↔◌, ◌&&◌, ◌||◌, ◌==◌, not, Bool, true, false, List, [], ◌∷◌, Option, Some, None, inl, inr, map, if◌then◌else◌}
use Rattle.std.specs.List.{list_any}
use Rattle.std.proofs.lemmas.Bool.{and_parts, false≢true}
use Rattle.card_code.specs.Rows.{rows, row_number}
use Rattle.card_code.specs.declared.row.Row.{Row as CardRow}
use Rattle.machine.specs.Below.carriage.Carriage.{carriage_sensed, carriage_ended}
use Rattle.counters.specs.Counters.{Counter, shows}
use Rattle.hubs.specs.HubTable.Ranges.{is_within}
use Rattle.machine.specs.Below.page_text.declared.placed_lines.placed_line.PlacedLine.{PlacedLine}
use Rattle.hubs.specs.SetupsWords.Wiring.{HasWire, LeadsToEntries, Wiring, is_wired}
use Rattle.hubs.specs.Hubs.{carry_into, carry_out_of, is_entry_hub}
use Rattle.hubs.specs.declared.hub.Hub.{Hub}
use Rattle.hubs.specs.declared.hub.Hub.TheVariants.{CA, CB, CI, CO, CX, RO, SO, SX}
use Rattle.net.specs.Impulsed.{IsImpulsed, IsPicture}
use Rattle.net.specs.Impulsed.IsImpulsed.{emitting, led_on}
use Rattle.net.specs.declared.cycle.Cycle.{Cycle}
use Rattle.net.specs.declared.cycle.Cycle.TheVariants.{RunIn, Card, Prog, Head}
use Rattle.net.specs.declared.cycle.Point.{Point}
use Rattle.net.specs.declared.cycle.Point.TheVariants.{C, Row, K}
use Rattle.machine.specs.Below.print_unit.ZeroControl.{printed_line, has_zero_control}
use Rattle.machine.specs.Below.program_unit.Program.{ProgramState, program_sensed, program_ended}
use Rattle.machine.specs.Below.selectors.Pilots.{PilotStates}
use Rattle.machine.specs.Below.selectors.WholeCycles as selectors
use Rattle.machine.specs.Below.stations.Comparing.{are_unlike}
use Rattle.machine.specs.Below.stations.Stations.{stations_emits}
use Rattle.machine.specs.Below.print_unit.Emitters.{emitters_emit}
use Rattle.machine.specs.Below.storage_units.Storage.{StorageState, holds}
use Rattle.machine.specs.Below.storage_units.WholeCycles as storage_units
use Rattle.machine.specs.Cycles.{CycleRun}
use Rattle.machine.specs.Machine.{MachineState, closes}
use Rattle.machine.specs.Runs.{InRun, RunsBy, cards_moved, made_ready, moved_on, run_at_start}
use Rattle.machine.proofs.OneOutcome.{same_picture}
use Rattle.machine.proofs.Pictures.{IsPicture-same}
use Rattle.machine.proofs.SomeOutcome.{CycleRun-some}
use Rattle.proof_cycles.specs.WholeCycles.Between.{IsBetween, IsReady}
use Rattle.proof_cycles.specs.WholeCycles.Carries.{but_carries, is_carry}
use Rattle.proof_cycles.specs.WholeCycles.RingRuns.{RingCycle, RingsRunByThemselves}
use Rattle.proof_cycles.specs.WholeCycles.Rings.{JoinsNoGroups, after_turning, is_same_group}
use Rattle.proof_cycles.specs.WholeCycles.WholeCycles.{closing_emits, row_emits, storage_reads_out, wheels_after}
use Rattle.proof_cycles.proofs.WholeCycles.Ready.{machines-ready, ready-moved}
use Rattle.proof_cycles.proofs.WholeCycles.Rings.{rings-turn}
use Rattle.proof_cycles.proofs.WholeCycles.Wholes.{cycles-whole}

-- the pictures of a cycle without its carries
abbrev without_carries : (Point → Hub → Bool) → Point → Hub → Bool
without_carries pictures C hub = pictures C hub
without_carries pictures (Row row) hub = pictures (Row row) hub
without_carries pictures K hub = but_carries (pictures K) hub

-- no carry hub is impulsed where no carry is
compares-apart : (pictures : Point → Hub → Bool) (cycle : Cycle) (hub : Hub) → closing_emits pictures cycle hub ≡ true → is_carry hub ≡ false
compares-apart pictures Card (CX p) emits = refl
compares-apart pictures RunIn hub emits = absurd (false≢true emits)
compares-apart pictures Card other emits = absurd (false≢true emits)
compares-apart pictures (Prog level ordinal) hub emits = absurd (false≢true emits)
compares-apart pictures (Head heading) hub emits = absurd (false≢true emits)

wires-apart : (wiring : Wiring) → LeadsToEntries wiring → JoinsNoGroups wiring → (from to : Hub) → HasWire wiring from to
    → is_carry from ≡ false → is_carry to ≡ false
wires-apart wiring leads joins from to wire apart = by from to apart (leads from to wire).1 (joins from to wire)
  where
    by : (from to : Hub) → is_carry from ≡ false → is_entry_hub to ≡ true → is_same_group (carry_out_of from) (carry_into to) ≡ true
        → is_carry to ≡ false
    by from (CO group) apart entry same = absurd (false≢true entry)
    by (CO group) (CI name) apart entry same = absurd (false≢true (sym apart))
    by other (CI name) apart entry same = absurd (false≢true same)
    by from other apart entry same = refl

none-impulsed : (wiring : Wiring) (pictures : Point → Hub → Bool) (cycle : Cycle) (closed : Hub → Bool)
    → LeadsToEntries wiring → JoinsNoGroups wiring → {hub : Hub}
    → IsImpulsed wiring (closing_emits pictures cycle) (but_carries closed) hub → is_carry hub ≡ false
none-impulsed wiring pictures cycle closed leads joins (emitting hub there emits) = compares-apart pictures cycle hub emits
none-impulsed wiring pictures cycle closed leads joins (led_on from to at (inl wire)) =
    wires-apart wiring leads joins from to wire (none-impulsed wiring pictures cycle closed leads joins at)
none-impulsed wiring pictures cycle closed leads joins (led_on from to at (inr contact)) =
    by (is_carry to) refl (and_parts (not (is_carry to)) (closed to) contact.1).0
  where
    by : (carry : Bool) → is_carry to ≡ carry → not carry ≡ true → is_carry to ≡ false
    by true is not_carry = absurd (false≢true not_carry)
    by false is not_carry = is

-- so the picture of the closing point without its carries is the one that would be there without them
closing-apart : (wiring : Wiring) (pictures : Point → Hub → Bool) (cycle : Cycle) (closed picture : Hub → Bool)
    → LeadsToEntries wiring → JoinsNoGroups wiring
    → ((hub : Hub) → is_carry hub ≡ false
    → (picture hub ≡ true) ↔ IsImpulsed wiring (closing_emits pictures cycle) (but_carries closed) hub)
    → IsPicture wiring (closing_emits pictures cycle) (but_carries closed) (but_carries picture)
closing-apart wiring pictures cycle closed picture leads joins others hub = by (is_carry hub) refl
  where
    by : (carry : Bool) → is_carry hub ≡ carry → (but_carries picture hub ≡ true) ↔ IsImpulsed wiring (closing_emits pictures cycle) (but_carries closed) hub
    by true is = (
      λ on. absurd (false≢true (sym (ap (λ (b : Bool). not b && picture hub) is) ∙ on)),
      λ at. absurd (false≢true (sym (none-impulsed wiring pictures cycle closed leads joins at) ∙ is)),
    )
    by false is =
        let same : but_carries picture hub ≡ picture hub = ap (λ (b : Bool). not b && picture hub) is in (
          λ on. (others hub is).0 (sym same ∙ on),
          λ at. same ∙ (others hub is).1 at,
        )

-- nothing but the counter groups and the closing point itself sees a carry
closing-same : (pictures : Point → Hub → Bool) (cycle : Cycle) (hub : Hub)
    → closing_emits pictures cycle hub ≡ closing_emits (without_carries pictures) cycle hub
closing-same pictures Card (CX p) = refl
closing-same pictures cycle hub = refl

program-same : (pictures : Point → Hub → Bool) (program : ProgramState) (cycle : Cycle)
    → program_sensed program cycle K (pictures K) ≡ program_sensed program cycle K (without_carries pictures K)
program-same pictures program Card = refl
program-same pictures program cycle = refl

pilots-same : (pictures : Point → Hub → Bool) (pilots : PilotStates) (cycle : Cycle)
    → selectors.after_cycle cycle pictures pilots ≡ selectors.after_cycle cycle (without_carries pictures) pilots
pilots-same pictures pilots RunIn = refl
pilots-same pictures pilots Card = refl
pilots-same pictures pilots (Prog level ordinal) = refl
pilots-same pictures pilots (Head heading) = refl

-- what is emitted at a row hangs on the picture of the control point alone
storage-by_control : (row : CardRow) (storage : StorageState) (one other : Point → Hub → Bool) → ◌≡◌ {A = Hub → Bool} (one C) (other C)
    → (hub : Hub) → storage_reads_out one row storage hub ≡ storage_reads_out other row storage hub
storage-by_control row storage one other same (SX unit column) =
    ap (λ (picture : Hub → Bool). (picture (SO storage.place) && (unit == storage.place)) && holds storage row column) same
storage-by_control row storage one other same hub = refl

rows-by_control : (old : MachineState) (cycle : Cycle) (row : CardRow) (one other : Point → Hub → Bool)
    → ◌≡◌ {A = Hub → Bool} (one C) (other C) → (hub : Hub) → row_emits old one cycle row hub ≡ row_emits old other cycle row hub
rows-by_control old cycle row one other same hub = λ i.
    stations_emits old.stations cycle (Row row) hub
    || list_any (λ (group : Counter). same i (RO group.name) && shows group.name (row_number row) group.digits hub) old.groups
    || list_any (λ (storage : StorageState). storage-by_control row storage one other same hub i) old.storage
    || emitters_emit old.emitters cycle (Row row) hub

-- a cycle of the machine is one in which carries are no impulses
ring-cycle : (wiring : Wiring) (cycle : Cycle) (old new : MachineState) → LeadsToEntries wiring → JoinsNoGroups wiring → IsBetween old
    → CycleRun wiring cycle old new → RingCycle wiring cycle old new
ring-cycle wiring cycle old new leads joins between run =
    let whole = cycles-whole wiring cycle old new between run in
    let turn = rings-turn wiring cycle old new whole leads joins between in
    let apart = closing-apart wiring whole.pictures cycle (closes old cycle K) (whole.pictures K) leads joins turn.others in
    record {
      pictures = without_carries whole.pictures;
      control = whole.control;
      rows = λ row.
          IsPicture-same wiring (row_emits old whole.pictures cycle row) (row_emits old (without_carries whole.pictures) cycle row)
          (closes old cycle (Row row)) (closes old cycle (Row row)) (whole.pictures (Row row))
          (rows-by_control old cycle row whole.pictures (without_carries whole.pictures) refl) (λ hub. refl) (whole.rows row);
      closing =
          IsPicture-same wiring (closing_emits whole.pictures cycle) (closing_emits (without_carries whole.pictures) cycle)
          (but_carries (closes old cycle K)) (but_carries (closes old cycle K)) (but_carries (whole.pictures K))
          (closing-same whole.pictures cycle) (λ hub. refl) apart;
      stations = whole.stations;
      comparing = whole.comparing;
      groups = turn.groups;
      storage = whole.storage;
      pilots = whole.pilots ∙ pilots-same whole.pictures old.pilots cycle;
      indicate = whole.indicate;
      splits = whole.splits;
      emitters = whole.emitters;
      wheels = whole.wheels;
      line = whole.line;
      carriage = whole.carriage;
      program = whole.program ∙ ap (λ (p : ProgramState). program_ended p cycle) (program-same whole.pictures old.program cycle);
    }

-- what is emitted at the closing point, but for carries, hangs on the pictures of the rows alone
closing-by_rows : (cycle : Cycle) (one other : Point → Hub → Bool)
    → ((row : CardRow) → ◌≡◌ {A = Hub → Bool} (one (Row row)) (other (Row row)))
    → (hub : Hub) → closing_emits one cycle hub ≡ closing_emits other cycle hub
closing-by_rows Card one other same (CX p) = λ i.
    is_within p 30 && list_any (λ (row : CardRow). are_unlike (same row i (CA p)) (same row i (CB p))) rows
closing-by_rows cycle one other same hub = refl

-- a state of the machine is told by its parts
same_state : (one other : MachineState)
    → one.stations ≡ other.stations → one.comparing ≡ other.comparing → one.groups ≡ other.groups → one.storage ≡ other.storage
    → one.pilots ≡ other.pilots → one.indicate ≡ other.indicate → one.splits ≡ other.splits → one.emitters ≡ other.emitters
    → one.wheels.wheels ≡ other.wheels.wheels → one.wheels.line ≡ other.wheels.line → one.carriage ≡ other.carriage
    → one.program ≡ other.program → one ≡ other
same_state one other stations comparing groups storage pilots indicate splits emitters wheels line carriage program = λ i. record {
  stations = stations i;
  comparing = comparing i;
  groups = groups i;
  storage = storage i;
  pilots = pilots i;
  indicate = indicate i;
  splits = splits i;
  emitters = emitters i;
  wheels = record { wheels = wheels i; line = line i };
  carriage = carriage i;
  program = program i;
}

-- such a cycle leaves one machine
ring-one : (wiring : Wiring) (cycle : Cycle) (old one other : MachineState)
    → RingCycle wiring cycle old one → RingCycle wiring cycle old other → one ≡ other
ring-one wiring cycle old one other first second =
    same_state one other (first.stations ∙ sym second.stations) (first.comparing ∙ sym second.comparing)
    (first.groups ∙ ap (λ (ps : Point → Hub → Bool).
    map (λ group. after_turning (is_wired wiring (CO group.name) (CI group.name)) cycle ps group) old.groups) same ∙ sym second.groups)
    (first.storage ∙ ap (λ (ps : Point → Hub → Bool). map (storage_units.after_cycle cycle ps) old.storage) same ∙ sym second.storage)
    (first.pilots ∙ ap (λ (ps : Point → Hub → Bool). selectors.after_cycle cycle ps old.pilots) same ∙ sym second.pilots)
    (first.indicate ∙ sym second.indicate) (first.splits ∙ sym second.splits) (first.emitters ∙ sym second.emitters)
    (first.wheels ∙ sym second.wheels)
    (first.line ∙ ap (λ (ps : Point → Hub → Bool). printed_line (has_zero_control cycle) (wheels_after ps old.wheels.wheels)) same
    ∙ sym second.line)
    (first.carriage ∙ ap (λ (ps : Point → Hub → Bool). carriage_ended (carriage_sensed old.carriage cycle C (ps C)) cycle) same
    ∙ sym second.carriage)
    (first.program ∙ ap (λ (ps : Point → Hub → Bool). program_ended (program_sensed old.program cycle K (ps K)) cycle) same
    ∙ sym second.program)
  where
    at_control : ◌≡◌ {A = Hub → Bool} (first.pictures C) (second.pictures C)
    at_control =
        same_picture wiring _ (closes old cycle C) (first.pictures C) (second.pictures C) first.control second.control

    at_row : (row : CardRow) → ◌≡◌ {A = Hub → Bool} (first.pictures (Row row)) (second.pictures (Row row))
    at_row row =
        same_picture wiring (row_emits old second.pictures cycle row) (closes old cycle (Row row)) (first.pictures (Row row))
        (second.pictures (Row row))
        (IsPicture-same wiring (row_emits old first.pictures cycle row) (row_emits old second.pictures cycle row)
        (closes old cycle (Row row)) (closes old cycle (Row row)) (first.pictures (Row row))
        (rows-by_control old cycle row first.pictures second.pictures at_control) (λ hub. refl) (first.rows row))
        (second.rows row)

    at_closing : ◌≡◌ {A = Hub → Bool} (first.pictures K) (second.pictures K)
    at_closing =
        same_picture wiring (closing_emits second.pictures cycle) (but_carries (closes old cycle K)) (first.pictures K) (second.pictures K)
        (IsPicture-same wiring (closing_emits first.pictures cycle) (closing_emits second.pictures cycle)
        (but_carries (closes old cycle K)) (but_carries (closes old cycle K)) (first.pictures K)
        (closing-by_rows cycle first.pictures second.pictures at_row) (λ hub. refl) first.closing)
        second.closing

    each : (point : Point) → ◌≡◌ {A = Hub → Bool} (first.pictures point) (second.pictures point)
    each C = at_control
    each (Row row) = at_row row
    each K = at_closing

    same : ◌≡◌ {A = Point → Hub → Bool} first.pictures second.pictures
    same = λ i point. each point i

-- and is one of the machine
machine-cycle : (wiring : Wiring) (cycle : Cycle) (old new : MachineState) → LeadsToEntries wiring → JoinsNoGroups wiring → IsBetween old
    → RingCycle wiring cycle old new → CycleRun wiring cycle old new
machine-cycle wiring cycle old new leads joins between ring =
    let run = CycleRun-some wiring cycle old in
    subst (λ (m : MachineState). CycleRun wiring cycle old m)
    (ring-one wiring cycle old run.0 new (ring-cycle wiring cycle old run.0 leads joins between run.1) ring) run.1

-- what holds of a machine is kept as the cards move on
moved-kept : (Holds : MachineState → Type 0)
    → ((next : Option (List ℕ)) (machine : MachineState) → Holds machine → Holds (moved_on next machine))
    → (cycle : Cycle) (run : InRun) → Holds run.machine → Holds (made_ready cycle run).machine
moved-kept Holds moves Card run holds = by run.hopper
  where
    by : (hopper : List (List ℕ)) → Holds (cards_moved run.machine hopper).machine
    by [] = moves None run.machine holds
    by (card ∷ cards) = moves (Some card) run.machine holds
moved-kept Holds moves cycle run holds = holds

-- a run by one relation of a cycle is one by another where each cycle is, from what holds of the machine all the time
runs-by : (One Other : Cycle → MachineState → MachineState → Type 0) (Holds : MachineState → Type 0)
    → ((next : Option (List ℕ)) (machine : MachineState) → Holds machine → Holds (moved_on next machine))
    → ((cycle : Cycle) (old new : MachineState) → Holds old → One cycle old new → Holds new × Other cycle old new)
    → (cycles : List Cycle) (run : InRun) (lines : List PlacedLine) → Holds run.machine
    → RunsBy One cycles run lines → RunsBy Other cycles run lines
unfolding RunsBy
runs-by One Other Holds moves each [] run lines holds over = over
runs-by One Other Holds moves each (cycle ∷ cycles) run lines holds (new, others, due, ran, runs, is) =
    let both = each cycle (made_ready cycle run).machine new (moved-kept Holds moves cycle run holds) ran in (
      new,
      others,
      due,
      both.1,
      runs-by One Other Holds moves each cycles (record { machine = new; hopper = (made_ready cycle run).hopper }) others both.0 runs,
      is,
    )

ready-at_start : (wiring : Wiring) (cards : List (List ℕ)) → IsReady wiring (run_at_start wiring cards).machine
ready-at_start wiring [] = ready-moved wiring None _ (machines-ready.start wiring)
ready-at_start wiring (card ∷ cards) = ready-moved wiring (Some card) _ (machines-ready.start wiring)

pub rings-run : RingsRunByThemselves
rings-run = record {
  cycle = λ wiring cycle old new leads joins between. (
    ring-cycle wiring cycle old new leads joins between,
    machine-cycle wiring cycle old new leads joins between,
  );
  runs = λ wiring cards cycles lines leads joins. (
    runs-by (CycleRun wiring) (RingCycle wiring) (IsReady wiring) (ready-moved wiring)
        (λ cycle old new ready ran.
        (machines-ready.kept wiring cycle old new ready ran, ring-cycle wiring cycle old new leads joins ready.between ran))
        cycles (run_at_start wiring cards) lines (ready-at_start wiring cards),
    runs-by (RingCycle wiring) (CycleRun wiring) (IsReady wiring) (ready-moved wiring)
        (λ cycle old new ready ring.
        let ran = machine-cycle wiring cycle old new leads joins ready.between ring in
        (machines-ready.kept wiring cycle old new ready ran, ran))
        cycles (run_at_start wiring cards) lines (ready-at_start wiring cards),
  );
}
