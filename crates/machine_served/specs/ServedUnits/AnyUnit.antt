-- The machine's 45 units as units of one kind: a unit in its state, of whichever type it is.
use Rattle.std.specs.Prelude.{◌≡◌, ℕ, ◌-◌, Bool, List, [], ◌∷◌, ◌++◌, map, slice_index_or}
use Rattle.std.specs.List.{range_with_len}
use Rattle.carriage.specs.Carriage.{CarriageState}
use Rattle.counters.specs.Counters.{Counter}
use Rattle.hubs.specs.declared.hub.Hub.{Hub}
use Rattle.machine.specs.Machine.{MachineState}
use Rattle.net.specs.declared.cycle.Cycle.{Cycle}
use Rattle.net.specs.declared.cycle.Point.{Point}
use Rattle.print_unit.specs.Wheels.{WheelsState}
use Rattle.print_unit.specs.declared.emitters.Emitters.{Emitters}
use Rattle.program_unit.specs.Program.{ProgramState}
use Rattle.selectors.specs.Indicate.{Latches}
use Rattle.selectors.specs.Pilots.{PilotStates}
use Rattle.selectors.specs.declared.splits.Splits.{Splits}
use Rattle.machine_served.specs.ServedWords.Orders.{unit_count}
use Rattle.net.specs.Units.{Kind}
use Rattle.carriage.specs.Kinds.{carriage_kind}
use Rattle.counters.specs.Kinds.{counter_kind}
use Rattle.print_unit.specs.Kinds.{emitters_kind, wheels_kind}
use Rattle.program_unit.specs.Kinds.{program_kind}
use Rattle.selectors.specs.Kinds.{indicate_kind, pilots_kind, splits_kind}
use Rattle.stations.specs.Kinds.{comparing_kind, stations_kind}
use Rattle.storage_units.specs.Kinds.{storage_kind}
use Rattle.stations.specs.Comparing.{Compared}
use Rattle.stations.specs.Stations.{StationCards}
use Rattle.storage_units.specs.Storage.{StorageState}

-- a unit of the machine in its state
pub data AnyUnit : Type 0 where
  StationsUnit : StationCards → AnyUnit
  ComparingUnit : Compared → AnyUnit
  GroupUnit : Counter → AnyUnit
  StorageUnit : StorageState → AnyUnit
  PilotsUnit : PilotStates → AnyUnit
  IndicationUnit : Latches → AnyUnit
  SplitsUnit : Splits → AnyUnit
  EmittersUnit : Emitters → AnyUnit
  WheelsUnit : WheelsState → AnyUnit
  CarriageUnit : CarriageState → AnyUnit
  ProgramUnit : ProgramState → AnyUnit

-- the exits that it emits
abbrev pub any_emits : AnyUnit → Cycle → Point → Hub → Bool
any_emits (StationsUnit state) = stations_kind.emits state
any_emits (ComparingUnit state) = comparing_kind.emits state
any_emits (GroupUnit state) = counter_kind.emits state
any_emits (StorageUnit state) = storage_kind.emits state
any_emits (PilotsUnit state) = pilots_kind.emits state
any_emits (IndicationUnit state) = indicate_kind.emits state
any_emits (SplitsUnit state) = splits_kind.emits state
any_emits (EmittersUnit state) = emitters_kind.emits state
any_emits (WheelsUnit state) = wheels_kind.emits state
any_emits (CarriageUnit state) = carriage_kind.emits state
any_emits (ProgramUnit state) = program_kind.emits state

-- its contacts that are closed, by their exits
abbrev pub any_closes : AnyUnit → Cycle → Point → Hub → Bool
any_closes (StationsUnit state) = stations_kind.closes state
any_closes (ComparingUnit state) = comparing_kind.closes state
any_closes (GroupUnit state) = counter_kind.closes state
any_closes (StorageUnit state) = storage_kind.closes state
any_closes (PilotsUnit state) = pilots_kind.closes state
any_closes (IndicationUnit state) = indicate_kind.closes state
any_closes (SplitsUnit state) = splits_kind.closes state
any_closes (EmittersUnit state) = emitters_kind.closes state
any_closes (WheelsUnit state) = wheels_kind.closes state
any_closes (CarriageUnit state) = carriage_kind.closes state
any_closes (ProgramUnit state) = program_kind.closes state

-- what it becomes by sensing a picture
abbrev pub any_sensed : AnyUnit → Cycle → Point → (Hub → Bool) → AnyUnit
any_sensed (StationsUnit state) cycle point picture = StationsUnit (stations_kind.sensed state cycle point picture)
any_sensed (ComparingUnit state) cycle point picture = ComparingUnit (comparing_kind.sensed state cycle point picture)
any_sensed (GroupUnit state) cycle point picture = GroupUnit (counter_kind.sensed state cycle point picture)
any_sensed (StorageUnit state) cycle point picture = StorageUnit (storage_kind.sensed state cycle point picture)
any_sensed (PilotsUnit state) cycle point picture = PilotsUnit (pilots_kind.sensed state cycle point picture)
any_sensed (IndicationUnit state) cycle point picture = IndicationUnit (indicate_kind.sensed state cycle point picture)
any_sensed (SplitsUnit state) cycle point picture = SplitsUnit (splits_kind.sensed state cycle point picture)
any_sensed (EmittersUnit state) cycle point picture = EmittersUnit (emitters_kind.sensed state cycle point picture)
any_sensed (WheelsUnit state) cycle point picture = WheelsUnit (wheels_kind.sensed state cycle point picture)
any_sensed (CarriageUnit state) cycle point picture = CarriageUnit (carriage_kind.sensed state cycle point picture)
any_sensed (ProgramUnit state) cycle point picture = ProgramUnit (program_kind.sensed state cycle point picture)

-- what it becomes at the end of a cycle
abbrev pub any_ended : AnyUnit → Cycle → AnyUnit
any_ended (StationsUnit state) cycle = StationsUnit (stations_kind.ended state cycle)
any_ended (ComparingUnit state) cycle = ComparingUnit (comparing_kind.ended state cycle)
any_ended (GroupUnit state) cycle = GroupUnit (counter_kind.ended state cycle)
any_ended (StorageUnit state) cycle = StorageUnit (storage_kind.ended state cycle)
any_ended (PilotsUnit state) cycle = PilotsUnit (pilots_kind.ended state cycle)
any_ended (IndicationUnit state) cycle = IndicationUnit (indicate_kind.ended state cycle)
any_ended (SplitsUnit state) cycle = SplitsUnit (splits_kind.ended state cycle)
any_ended (EmittersUnit state) cycle = EmittersUnit (emitters_kind.ended state cycle)
any_ended (WheelsUnit state) cycle = WheelsUnit (wheels_kind.ended state cycle)
any_ended (CarriageUnit state) cycle = CarriageUnit (carriage_kind.ended state cycle)
any_ended (ProgramUnit state) cycle = ProgramUnit (program_kind.ended state cycle)

-- its number
abbrev pub any_number : AnyUnit → ℕ
any_number (StationsUnit state) = stations_kind.number state
any_number (ComparingUnit state) = comparing_kind.number state
any_number (GroupUnit state) = counter_kind.number state
any_number (StorageUnit state) = storage_kind.number state
any_number (PilotsUnit state) = pilots_kind.number state
any_number (IndicationUnit state) = indicate_kind.number state
any_number (SplitsUnit state) = splits_kind.number state
any_number (EmittersUnit state) = emitters_kind.number state
any_number (WheelsUnit state) = wheels_kind.number state
any_number (CarriageUnit state) = carriage_kind.number state
any_number (ProgramUnit state) = program_kind.number state

-- the units of the machine as one kind
abbrev pub any_kind : Kind AnyUnit
any_kind = record { emits = any_emits; closes = any_closes; sensed = any_sensed; ended = any_ended; number = any_number }

-- the last seven units of a machine
abbrev pub last_units : MachineState → List AnyUnit
last_units machine =
    PilotsUnit machine.pilots
    ∷ IndicationUnit machine.indicate
    ∷ SplitsUnit machine.splits
    ∷ EmittersUnit machine.emitters
    ∷ WheelsUnit machine.wheels
    ∷ CarriageUnit machine.carriage
    ∷ ProgramUnit machine.program
    ∷ []

-- the units of a machine in their order
abbrev pub units_of : MachineState → List AnyUnit
units_of machine =
    StationsUnit machine.stations
    ∷ ComparingUnit machine.comparing
    ∷ (map GroupUnit machine.groups ++ (map StorageUnit machine.storage ++ last_units machine))

-- the unit of a machine with this number; for a number that no unit has, the splits, which have no state
abbrev pub unit_at : MachineState → ℕ → AnyUnit
unit_at machine unit = slice_index_or (units_of machine) (unit - 1) (SplitsUnit (record {}))

-- the numbers of the units, 1 to 45
abbrev pub unit_numbers : List ℕ
unit_numbers = range_with_len 1 unit_count

-- each unit of the machine stands at its own number
abbrev pub AreInOrder : MachineState → Type 0
AreInOrder machine = map any_number (units_of machine) ≡ unit_numbers
