-- What contracts see of the fields of the units.
use Rattle.std.specs.Prelude.{◌≡◌, List, map}
use Rattle.counters.specs.Counters.{Counter, counter_number}
use Rattle.storage_units.specs.Storage.{StorageState, storage_number}
use Rattle.machine.specs.Machine.{MachineState, group_units, storage_units}
use Rattle.machine.specs.declared.unit_set.UnitSet.TheInside.{Inside}

-- the states of the units
abbrev pub machine_in : Inside → MachineState
machine_in units = record {
  stations = units.stations;
  comparing = units.comparing;
  groups = units.groups;
  storage = units.storage;
  pilots = units.pilots;
  indicate = units.indicate;
  splits = units.splits;
  emitters = units.emitters;
  wheels = units.wheels;
  carriage = units.carriage;
  program = units.program;
}

-- the counter groups stand in the order of their units
abbrev pub AreInUnitOrder : List Counter → Type 0
AreInUnitOrder groups = map counter_number groups ≡ group_units

-- the storage units stand in the order of their numbers
abbrev pub AreInStorageOrder : List StorageState → Type 0
AreInStorageOrder storage = map storage_number storage ≡ storage_units

-- the units of a machine of which there are several stand in their order
pub record IsInUnitOrder (machine : MachineState) : Type 0 where
  pub groups : AreInUnitOrder machine.groups
  pub storage : AreInStorageOrder machine.storage
