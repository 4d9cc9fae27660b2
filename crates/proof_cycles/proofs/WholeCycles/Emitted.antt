-- What is emitted, and which contacts are closed, at each point of a cycle, by the state before the cycle.
use Rattle.std.proofs.Common.{◌≡◌, ◌∙◌, ap, sym, refl, Bool, true, false, ◌||◌, List, [], ◌∷◌, map}
use Rattle.std.specs.List.{list_any}
use Rattle.card_code.specs.Rows.{rows}
use Rattle.card_code.specs.declared.row.Row.{Row as CardRow}
use Rattle.counters.specs.Counters.{Counter, counter_closes, counter_emits, counter_sensed}
use Rattle.hubs.specs.declared.hub.Hub.{Hub}
use Rattle.hubs.specs.declared.hub.Hub.TheVariants.{CX, SX}
use Rattle.net.specs.Cycles.{is_closing}
use Rattle.net.specs.declared.cycle.Cycle.{Cycle}
use Rattle.net.specs.declared.cycle.Cycle.TheVariants.{RunIn, Card}
use Rattle.net.specs.declared.cycle.Point.{Point}
use Rattle.net.specs.declared.cycle.Point.TheVariants.{C, Row, K}
use Rattle.machine.specs.Below.print_unit.Emitters.{emitters_emit}
use Rattle.machine.specs.Below.program_unit.Program.{tells}
use Rattle.machine.proofs.Below.selectors.LawLemmas.{pilots_stand}
use Rattle.machine.specs.Below.selectors.Indicate.{indicate_closes}
use Rattle.machine.specs.Below.selectors.Pilots.{PilotStates, pilots_closes}
use Rattle.machine.specs.Below.selectors.Splits.{splits_closes}
use Rattle.machine.proofs.Below.stations.Differences.{tells_differences}
use Rattle.machine.specs.Below.stations.Comparing.{Compared, comparing_at_start, comparing_emits}
use Rattle.machine.specs.Below.stations.Stations.{StationCards, stations_emits}
use Rattle.machine.specs.Below.storage_units.Storage.{StorageState, storage_emits, storage_sensed}
use Rattle.machine.specs.Machine.{MachineState, emits, closes, sensed}
use Rattle.machine.proofs.ClosedContacts.{closes-steady, none-of}
use Rattle.proof_cycles.specs.WholeCycles.WholeCycles.{all_closing_emits, before_closing, carry_emits, closing_closes, control_emits, row_emits, closing_emits, group_reads_out, storage_reads_out}
use Rattle.proof_cycles.proofs.WholeCycles.Parts.{parts, after-kept, machine_after, group_after, unit_after, compared_after}

-- comparing emits at no row and not at the control point
comparing-control : (compared : Compared) (cycle : Cycle) (hub : Hub) → comparing_emits compared cycle C hub ≡ false
comparing-control compared RunIn hub = refl
comparing-control compared other hub = refl

comparing-row : (compared : Compared) (cycle : Cycle) (row : CardRow) (hub : Hub) → comparing_emits compared cycle (Row row) hub ≡ false
comparing-row compared RunIn row hub = refl
comparing-row compared other row hub = refl

-- the stations emit at the rows alone
stations-control : (cards : StationCards) (cycle : Cycle) (hub : Hub) → stations_emits cards cycle C hub ≡ false
stations-control cards RunIn hub = refl
stations-control cards other hub = refl

stations-closing : (cards : StationCards) (cycle : Cycle) (hub : Hub) → stations_emits cards cycle K hub ≡ false
stations-closing cards RunIn hub = refl
stations-closing cards other hub = refl

-- tests that tell of changed things what others tell of the things
pub any-changed : {X Y : Type 0} (test : Y → Bool) (other : X → Bool) (change : X → Y) → ((x : X) → test (change x) ≡ other x)
    → (xs : List X) → list_any test (map change xs) ≡ list_any other xs
any-changed test other change same [] = refl
any-changed test other change same (x ∷ xs) =
    let here = same x in let others = any-changed test other change same xs in λ i. here i || others i

-- rows change nothing of what a group emits at a row
group-rows : (cycle : Cycle) (pictures : Point → Hub → Bool) (before : List CardRow) (group : Counter) (row : CardRow) (hub : Hub)
    → counter_emits (group_after cycle pictures (map Row before) group) cycle (Row row) hub ≡ counter_emits group cycle (Row row) hub
group-rows cycle pictures [] group row hub = refl
group-rows cycle pictures (first ∷ others) group row hub =
    group-rows cycle pictures others (counter_sensed group cycle (Row first) (pictures (Row first))) row hub

group-row : (cycle : Cycle) (pictures : Point → Hub → Bool) (before : List CardRow) (row : CardRow) (hub : Hub) (group : Counter)
    → counter_emits (group_after cycle pictures (C ∷ map Row before) group) cycle (Row row) hub
    ≡ group_reads_out pictures row group hub
group-row cycle pictures before row hub group =
    group-rows cycle pictures before (counter_sensed group cycle C (pictures C)) row hub

unit-rows : (cycle : Cycle) (pictures : Point → Hub → Bool) (before : List CardRow) (storage : StorageState) (row : CardRow) (hub : Hub)
    → storage_emits (unit_after cycle pictures (map Row before) storage) cycle (Row row) hub
    ≡ storage_emits storage cycle (Row row) hub
unit-rows cycle pictures [] storage row hub = refl
unit-rows cycle pictures (first ∷ others) storage row hub =
    unit-rows cycle pictures others (storage_sensed storage cycle (Row first) (pictures (Row first))) row hub
    ∙ by hub
  where
    by : (h : Hub) → storage_emits (storage_sensed storage cycle (Row first) (pictures (Row first))) cycle (Row row) h
        ≡ storage_emits storage cycle (Row row) h
    by (SX unit column) = refl
    by other = refl

unit-row : (cycle : Cycle) (pictures : Point → Hub → Bool) (before : List CardRow) (row : CardRow) (hub : Hub) (storage : StorageState)
    → storage_emits (unit_after cycle pictures (C ∷ map Row before) storage) cycle (Row row) hub
    ≡ storage_reads_out pictures row storage hub
unit-row cycle pictures before row hub storage =
    unit-rows cycle pictures before (storage_sensed storage cycle C (pictures C)) row hub ∙ by hub
  where
    by : (h : Hub) → storage_emits (storage_sensed storage cycle C (pictures C)) cycle (Row row) h
        ≡ storage_reads_out pictures row storage h
    by (SX unit column) = refl
    by other = refl

four : (stations groups storage emitters : Bool)
    → (stations || false || groups || storage || false || false || false || emitters || false || false || false)
    ≡ (stations || groups || storage || emitters)
four true groups storage emitters = refl
four false true storage emitters = refl
four false false true emitters = refl
four false false false true = refl
four false false false false = refl

-- what is emitted at a row
pub emits-row : (old : MachineState) (cycle : Cycle) (pictures : Point → Hub → Bool) (before : List CardRow) (row : CardRow) (hub : Hub)
    → emits (machine_after cycle pictures (C ∷ map Row before) old) cycle (Row row) hub ≡ row_emits old pictures cycle row hub
emits-row old cycle pictures before row hub =
    let now = machine_after cycle pictures (C ∷ map Row before) old in
    let part = parts cycle pictures (C ∷ map Row before) old in
    let comparing = comparing-row now.comparing cycle row hub in
    let groups =
    ap (λ (gs : List Counter). list_any (λ group. counter_emits group cycle (Row row) hub) gs) part.groups
    ∙ any-changed (λ (group : Counter). counter_emits group cycle (Row row) hub)
    (λ (group : Counter). group_reads_out pictures row group hub) (group_after cycle pictures (C ∷ map Row before))
    (group-row cycle pictures before row hub) old.groups in
    let storage =
    ap (λ (us : List StorageState). list_any (λ storage. storage_emits storage cycle (Row row) hub) us) part.storage
    ∙ any-changed (λ (storage : StorageState). storage_emits storage cycle (Row row) hub)
    (λ (storage : StorageState). storage_reads_out pictures row storage hub) (unit_after cycle pictures (C ∷ map Row before))
    (unit-row cycle pictures before row hub) old.storage in
    (λ i. stations_emits (part.stations i) cycle (Row row) hub
    || comparing i || groups i || storage i || false || false || false
    || emitters_emit (part.emitters i) cycle (Row row) hub || false || false || false)
    ∙ four (stations_emits old.stations cycle (Row row) hub)
    (list_any (λ group. group_reads_out pictures row group hub) old.groups)
    (list_any (λ storage. storage_reads_out pictures row storage hub) old.storage)
    (emitters_emit old.emitters cycle (Row row) hub)

-- what is emitted at the control point
pub emits-control : (old : MachineState) (cycle : Cycle) (hub : Hub) → emits old cycle C hub ≡ control_emits cycle hub
emits-control old cycle hub =
    let stations = stations-control old.stations cycle hub in
    let comparing = comparing-control old.comparing cycle hub in
    let groups = none-of old.groups in
    let storage = none-of old.storage in
    λ i. stations i || comparing i || groups i || storage i || false || false || false || false || false || false || tells cycle hub

-- comparing at the closing point
comparing-closing : (cycle : Cycle) (pictures : Point → Hub → Bool) (hub : Hub)
    → comparing_emits (compared_after cycle pictures (C ∷ map Row rows) comparing_at_start) cycle K hub
    ≡ closing_emits pictures cycle hub
comparing-closing Card pictures (CX p) = tells_differences (λ row. pictures (Row row)) p
comparing-closing other pictures hub = refl

two : (comparing groups : Bool)
    → (false || comparing || groups || false || false || false || false || false || false || false || false) ≡ (comparing || groups)
two true groups = refl
two false true = refl
two false false = refl

-- what is emitted at the closing point
pub emits-closing : (old : MachineState) (cycle : Cycle) (pictures : Point → Hub → Bool) (hub : Hub)
    → old.comparing ≡ comparing_at_start
    → emits (machine_after cycle pictures (C ∷ map Row rows) old) cycle K hub ≡ all_closing_emits old pictures cycle hub
emits-closing old cycle pictures hub start =
    let now = machine_after cycle pictures (C ∷ map Row rows) old in
    let part = parts cycle pictures (C ∷ map Row rows) old in
    let stations = stations-closing now.stations cycle hub in
    let comparing =
    ap (λ (c : Compared). comparing_emits c cycle K hub)
    (part.comparing ∙ ap (compared_after cycle pictures (C ∷ map Row rows)) start)
    ∙ comparing-closing cycle pictures hub in
    let groups =
    ap (λ (gs : List Counter). list_any (λ group. counter_emits group cycle K hub) gs) part.groups
    ∙ any-changed (λ (group : Counter). counter_emits group cycle K hub)
    (λ (group : Counter). counter_emits (before_closing cycle pictures group) cycle K hub)
    (group_after cycle pictures (C ∷ map Row rows)) (λ group. refl) old.groups in
    let storage = none-of now.storage in
    (λ i. stations i || comparing i || groups i || storage i || false || false || false || false || false || false || false)
    ∙ two (closing_emits pictures cycle hub) (carry_emits old pictures cycle hub)

-- the contacts that are closed at a point before the closing point are those of the state before the cycle
pub closes-before : (old : MachineState) (cycle : Cycle) (pictures : Point → Hub → Bool) (before : List Point) (point : Point) (hub : Hub)
    → is_closing point ≡ false → closes (machine_after cycle pictures before old) cycle point hub ≡ closes old cycle point hub
closes-before old cycle pictures before point hub early =
    after-kept (λ machine at picture. sensed machine cycle at picture) (λ machine. closes machine cycle point hub)
    (λ machine at picture. closes-steady machine cycle at point picture hub early) pictures before old

-- those of the closing point hang on what was entered
pub closes-closing : (old : MachineState) (cycle : Cycle) (pictures : Point → Hub → Bool) (hub : Hub)
    → closes (machine_after cycle pictures (C ∷ map Row rows) old) cycle K hub ≡ closing_closes old pictures cycle hub
closes-closing old cycle pictures hub =
    let now = machine_after cycle pictures (C ∷ map Row rows) old in
    let part = parts cycle pictures (C ∷ map Row rows) old in
    let groups = ap (λ (gs : List Counter). list_any (λ group. counter_closes group cycle K hub) gs) part.groups in
    let storage = none-of now.storage ∙ sym (none-of old.storage) in
    let pilots =
    ap (λ (p : PilotStates). pilots_closes p cycle K hub) part.pilots
    ∙ pilots_stand old.pilots cycle pictures (C ∷ map Row rows) K hub in
    λ i. false || false || groups i || storage i || pilots i || indicate_closes (part.indicate i) cycle K hub
    || splits_closes (part.splits i) cycle K hub || false || false || false || false
