-- The machine after some points, unit by unit.
use Rattle.std.proofs.Common.{◌≡◌, ◌∙◌, sym, ap, refl, Bool, List, [], ◌∷◌, map}
use Rattle.counters.specs.Counters.{Counter, counter_sensed}
use Rattle.hubs.specs.declared.hub.Hub.{Hub}
use Rattle.net.specs.declared.cycle.Cycle.{Cycle}
use Rattle.net.specs.declared.cycle.Point.{Point}
use Rattle.machine.specs.Below.carriage.Carriage.{CarriageState, carriage_sensed}
use Rattle.machine.specs.Below.print_unit.Wheels.{WheelsState, wheels_sensed}
use Rattle.machine.specs.Below.program_unit.Program.{ProgramState, program_sensed}
use Rattle.machine.specs.Below.selectors.Pilots.{PilotStates, pilots_sensed}
use Rattle.machine.specs.Below.stations.Comparing.{Compared, comparing_sensed}
use Rattle.machine.specs.Below.storage_units.Storage.{StorageState, storage_sensed}
use Rattle.machine.specs.Machine.{MachineState, sensed}
use Rattle.proof_cycles.proofs.WholeCycles.Walks.{after}

-- what a part of a state becomes hangs on the part alone
after-part : {M U : Type 0} (sense : M → Point → (Hub → Bool) → M) (change : U → Point → (Hub → Bool) → U) (part : M → U)
    → ((state : M) (point : Point) (picture : Hub → Bool) → part (sense state point picture) ≡ change (part state) point picture)
    → (pictures : Point → Hub → Bool) (points : List Point) (state : M)
    → part (after sense pictures points state) ≡ after change pictures points (part state)
after-part sense change part same pictures [] state = refl
after-part sense change part same pictures (point ∷ others) state =
    after-part sense change part same pictures others (sense state point (pictures point))
    ∙ ap (after change pictures others) (same state point (pictures point))

-- what no point changes stays
pub after-kept : {M V : Type 0} (sense : M → Point → (Hub → Bool) → M) (view : M → V)
    → ((state : M) (point : Point) (picture : Hub → Bool) → view (sense state point picture) ≡ view state)
    → (pictures : Point → Hub → Bool) (points : List Point) (state : M)
    → view (after sense pictures points state) ≡ view state
after-kept sense view same pictures [] state = refl
after-kept sense view same pictures (point ∷ others) state =
    after-kept sense view same pictures others (sense state point (pictures point)) ∙ same state point (pictures point)

map-none : {U : Type 0} (us : List U) → map (λ u. u) us ≡ us
map-none [] = refl
map-none {U} (u ∷ us) = ap (λ (others : List U). u ∷ others) (map-none us)

pub map-both : {U V W : Type 0} (first : U → V) (second : V → W) (us : List U) → map second (map first us) ≡ map (λ u. second (first u)) us
map-both first second [] = refl
map-both {U} {V} {W} first second (u ∷ us) = ap (λ (others : List W). second (first u) ∷ others) (map-both first second us)

-- units of a list change each by itself
after-each : {U : Type 0} (change : U → Point → (Hub → Bool) → U) (pictures : Point → Hub → Bool) (points : List Point) (us : List U)
    → after (λ list point picture. map (λ u. change u point picture) list) pictures points us
    ≡ map (after change pictures points) us
after-each change pictures [] us = sym (map-none us)
after-each change pictures (point ∷ others) us =
    after-each change pictures others (map (λ u. change u point (pictures point)) us)
    ∙ map-both (λ u. change u point (pictures point)) (after change pictures others) us

-- what the units become by the pictures of some points of a cycle
abbrev pub machine_after : Cycle → (Point → Hub → Bool) → List Point → MachineState → MachineState
machine_after cycle = after (λ machine point picture. sensed machine cycle point picture)

abbrev pub group_after : Cycle → (Point → Hub → Bool) → List Point → Counter → Counter
group_after cycle = after (λ group point picture. counter_sensed group cycle point picture)

abbrev pub unit_after : Cycle → (Point → Hub → Bool) → List Point → StorageState → StorageState
unit_after cycle = after (λ storage point picture. storage_sensed storage cycle point picture)

abbrev pub compared_after : Cycle → (Point → Hub → Bool) → List Point → Compared → Compared
compared_after cycle = after (λ compared point picture. comparing_sensed compared cycle point picture)

abbrev pub pilots_after : Cycle → (Point → Hub → Bool) → List Point → PilotStates → PilotStates
pilots_after cycle = after (λ pilots point picture. pilots_sensed pilots cycle point picture)

abbrev pub sensed_wheels : Cycle → (Point → Hub → Bool) → List Point → WheelsState → WheelsState
sensed_wheels cycle = after (λ wheels point picture. wheels_sensed wheels cycle point picture)

abbrev pub carriage_after : Cycle → (Point → Hub → Bool) → List Point → CarriageState → CarriageState
carriage_after cycle = after (λ carriage point picture. carriage_sensed carriage cycle point picture)

abbrev pub program_after : Cycle → (Point → Hub → Bool) → List Point → ProgramState → ProgramState
program_after cycle = after (λ program point picture. program_sensed program cycle point picture)

-- The machine after some points: each unit senses by itself.
pub record Parts (cycle : Cycle) (pictures : Point → Hub → Bool) (points : List Point) (old now : MachineState) : Type 0 where
  pub stations : now.stations ≡ old.stations
  pub comparing : now.comparing ≡ compared_after cycle pictures points old.comparing
  pub groups : now.groups ≡ map (group_after cycle pictures points) old.groups
  pub storage : now.storage ≡ map (unit_after cycle pictures points) old.storage
  pub pilots : now.pilots ≡ pilots_after cycle pictures points old.pilots
  pub indicate : now.indicate ≡ old.indicate
  pub splits : now.splits ≡ old.splits
  pub emitters : now.emitters ≡ old.emitters
  pub wheels : now.wheels ≡ sensed_wheels cycle pictures points old.wheels
  pub carriage : now.carriage ≡ carriage_after cycle pictures points old.carriage
  pub program : now.program ≡ program_after cycle pictures points old.program

pub parts : (cycle : Cycle) (pictures : Point → Hub → Bool) (points : List Point) (old : MachineState)
    → Parts cycle pictures points old (machine_after cycle pictures points old)
parts cycle pictures points old =
    let sense : MachineState → Point → (Hub → Bool) → MachineState =
    λ machine point picture. sensed machine cycle point picture in
    record {
      stations = after-kept sense (λ m. m.stations) (λ m point picture. refl) pictures points old;
      comparing =
          after-part sense (λ compared point picture. comparing_sensed compared cycle point picture) (λ m. m.comparing)
          (λ m point picture. refl) pictures points old;
      groups =
          after-part sense (λ groups point picture. map (λ group. counter_sensed group cycle point picture) groups)
          (λ m. m.groups) (λ m point picture. refl) pictures points old
          ∙ after-each (λ group point picture. counter_sensed group cycle point picture) pictures points old.groups;
      storage =
          after-part sense (λ units point picture. map (λ storage. storage_sensed storage cycle point picture) units)
          (λ m. m.storage) (λ m point picture. refl) pictures points old
          ∙ after-each (λ storage point picture. storage_sensed storage cycle point picture) pictures points old.storage;
      pilots =
          after-part sense (λ pilots point picture. pilots_sensed pilots cycle point picture) (λ m. m.pilots)
          (λ m point picture. refl) pictures points old;
      indicate = after-kept sense (λ m. m.indicate) (λ m point picture. refl) pictures points old;
      splits = after-kept sense (λ m. m.splits) (λ m point picture. refl) pictures points old;
      emitters = after-kept sense (λ m. m.emitters) (λ m point picture. refl) pictures points old;
      wheels =
          after-part sense (λ wheels point picture. wheels_sensed wheels cycle point picture) (λ m. m.wheels)
          (λ m point picture. refl) pictures points old;
      carriage =
          after-part sense (λ carriage point picture. carriage_sensed carriage cycle point picture) (λ m. m.carriage)
          (λ m point picture. refl) pictures points old;
      program =
          after-part sense (λ program point picture. program_sensed program cycle point picture) (λ m. m.program)
          (λ m point picture. refl) pictures points old;
    }
