-- The machine is its 45 units. What it emits is what any of them emits, its closed contacts are those of all, and it senses and
-- ends a cycle unit by unit, each unit by its own state alone.
use Rattle.std.specs.Prelude.{ℕ, Bool, ◌||◌, List, [], ◌∷◌, map}
use Rattle.std.specs.List.{list_any}
use Rattle.carriage.specs.Carriage.{CarriageState, carriage_at_start, carriage_sensed, carriage_ended}
use Rattle.counters.specs.Counters.{Counter, counter_at_start, counter_emits, counter_closes, counter_sensed, counter_ended}
use Rattle.hubs.specs.SetupsWords.Wiring.{Wiring}
use Rattle.hubs.specs.declared.hub.Hub.{Hub}
use Rattle.net.specs.declared.cycle.Cycle.{Cycle}
use Rattle.net.specs.declared.cycle.Point.{Point}
use Rattle.net.specs.Nothing.{emits_nothing, closes_nothing, senses_nothing, ends_unchanged}
use Rattle.print_unit.specs.Emitters.{emitters_at_start, emitters_emit}
use Rattle.print_unit.specs.Wheels.{WheelsState, wheels_at_start, wheels_sensed, wheels_ended}
use Rattle.print_unit.specs.declared.emitters.Emitters.{Emitters}
use Rattle.program_unit.specs.Program.{ProgramState, program_at_start, program_emits, program_sensed, program_ended}
use Rattle.selectors.specs.Indicate.{Latches, indicate_at_start, indicate_closes, indicate_ended}
use Rattle.selectors.specs.Pilots.{PilotStates, pilots_at_start, pilots_closes, pilots_sensed, pilots_ended}
use Rattle.selectors.specs.Splits.{splits_at_start, splits_closes}
use Rattle.selectors.specs.declared.splits.Splits.{Splits}
use Rattle.stations.specs.Comparing.{Compared, comparing_at_start, comparing_emits, comparing_sensed, comparing_ended}
use Rattle.stations.specs.Stations.{StationCards, stations_at_start, stations_emits, stations_ended}
use Rattle.storage_units.specs.Storage.{StorageState, storage_at_start, storage_emits, storage_sensed, storage_ended}

-- The states of all units. The counter groups are the units 3 to 34, and the storage units are 35 to 38, in this order.
pub record MachineState : Type 0 where
  pub stations : StationCards
  pub comparing : Compared
  pub groups : List Counter
  pub storage : List StorageState
  pub pilots : PilotStates
  pub indicate : Latches
  pub splits : Splits
  pub emitters : Emitters
  pub wheels : WheelsState
  pub carriage : CarriageState
  pub program : ProgramState

-- the units that are counter groups
abbrev pub group_units : List ℕ
group_units =
    3 ∷ 4 ∷ 5 ∷ 6 ∷ 7 ∷ 8 ∷ 9 ∷ 10 ∷ 11 ∷ 12 ∷ 13 ∷ 14 ∷ 15 ∷ 16 ∷ 17 ∷ 18 ∷ 19 ∷ 20 ∷ 21 ∷ 22 ∷ 23 ∷ 24 ∷ 25 ∷ 26
    ∷ 27 ∷ 28 ∷ 29 ∷ 30 ∷ 31 ∷ 32 ∷ 33 ∷ 34 ∷ []

-- the units that are storage units
abbrev pub storage_units : List ℕ
storage_units = 35 ∷ 36 ∷ 37 ∷ 38 ∷ []

-- each unit as it starts, with no card in the machine
abbrev pub machine_at_start : Wiring → MachineState
machine_at_start wiring = record {
  stations = stations_at_start;
  comparing = comparing_at_start;
  groups = map counter_at_start group_units;
  storage = map storage_at_start storage_units;
  pilots = pilots_at_start;
  indicate = indicate_at_start;
  splits = splits_at_start;
  emitters = emitters_at_start;
  wheels = wheels_at_start wiring;
  carriage = carriage_at_start wiring;
  program = program_at_start wiring;
}

-- whether some unit emits at an exit
abbrev pub emits : MachineState → Cycle → Point → Hub → Bool
emits machine cycle point exit =
    stations_emits machine.stations cycle point exit
    || comparing_emits machine.comparing cycle point exit
    || list_any (λ group. counter_emits group cycle point exit) machine.groups
    || list_any (λ storage. storage_emits storage cycle point exit) machine.storage
    || emits_nothing machine.pilots cycle point exit
    || emits_nothing machine.indicate cycle point exit
    || emits_nothing machine.splits cycle point exit
    || emitters_emit machine.emitters cycle point exit
    || emits_nothing machine.wheels cycle point exit
    || emits_nothing machine.carriage cycle point exit
    || program_emits machine.program cycle point exit

-- whether some unit closes the contact with an exit
abbrev pub closes : MachineState → Cycle → Point → Hub → Bool
closes machine cycle point exit =
    closes_nothing machine.stations cycle point exit
    || closes_nothing machine.comparing cycle point exit
    || list_any (λ group. counter_closes group cycle point exit) machine.groups
    || list_any (λ storage. closes_nothing storage cycle point exit) machine.storage
    || pilots_closes machine.pilots cycle point exit
    || indicate_closes machine.indicate cycle point exit
    || splits_closes machine.splits cycle point exit
    || closes_nothing machine.emitters cycle point exit
    || closes_nothing machine.wheels cycle point exit
    || closes_nothing machine.carriage cycle point exit
    || closes_nothing machine.program cycle point exit

-- each unit as it is after a point whose picture it has sensed
abbrev pub sensed : MachineState → Cycle → Point → (Hub → Bool) → MachineState
sensed machine cycle point picture = record {
  stations = senses_nothing machine.stations cycle point picture;
  comparing = comparing_sensed machine.comparing cycle point picture;
  groups = map (λ group. counter_sensed group cycle point picture) machine.groups;
  storage = map (λ storage. storage_sensed storage cycle point picture) machine.storage;
  pilots = pilots_sensed machine.pilots cycle point picture;
  indicate = senses_nothing machine.indicate cycle point picture;
  splits = senses_nothing machine.splits cycle point picture;
  emitters = senses_nothing machine.emitters cycle point picture;
  wheels = wheels_sensed machine.wheels cycle point picture;
  carriage = carriage_sensed machine.carriage cycle point picture;
  program = program_sensed machine.program cycle point picture;
}

-- each unit as it is at the end of a cycle
abbrev pub ended : MachineState → Cycle → MachineState
ended machine cycle = record {
  stations = stations_ended machine.stations cycle;
  comparing = comparing_ended machine.comparing cycle;
  groups = map (λ group. counter_ended group cycle) machine.groups;
  storage = map (λ storage. storage_ended storage cycle) machine.storage;
  pilots = pilots_ended machine.pilots cycle;
  indicate = indicate_ended machine.indicate cycle;
  splits = ends_unchanged machine.splits cycle;
  emitters = ends_unchanged machine.emitters cycle;
  wheels = wheels_ended machine.wheels cycle;
  carriage = carriage_ended machine.carriage cycle;
  program = program_ended machine.program cycle;
}
