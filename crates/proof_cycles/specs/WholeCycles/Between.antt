-- The machine between cycles: comparing, the counter groups, the pilots and the wheels have nothing left of what they gathered in the
-- cycle before, and what the setup fixes stands. The rows that storage units received stay until the next control point, and the level
-- called until a card cycle replaces it.
use Rattle.std.specs.Prelude.{◌≡◌, false, All, length, replicate, map}
use Rattle.std.specs.List.{range_with_len}
use Rattle.counters.specs.Counters.{Counter, no_controls}
use Rattle.counters.specs.Laws.{IsCounter}
use Rattle.hubs.specs.SetupsWords.Wiring.{Wiring}
use Rattle.net.specs.Printing.{printing_of}
use Rattle.machine.specs.Below.print_unit.Wheels.{wheel_at_start}
use Rattle.machine.specs.Below.print_unit.ZeroControl.{Wheel}
use Rattle.machine.specs.Below.selectors.Pilots.{no_pilots}
use Rattle.machine.specs.Below.stations.Comparing.{comparing_at_start}
use Rattle.machine.specs.Below.storage_units.Storage.{StorageState, storage_number}
use Rattle.machine.specs.Fields.{AreInUnitOrder}
use Rattle.machine.specs.Machine.{MachineState, storage_units}

-- A counter group between cycles: nothing is entered, no carry came in, and it is under no control.
pub record IsIdle (group : Counter) : Type 0 where
  pub lawful : IsCounter group
  pub entered : group.entered ≡ replicate group.name.width 0
  pub carry : group.carry ≡ false
  pub controls : group.controls ≡ no_controls

-- a word of columns for each row, of what a storage unit holds and of what it received
pub record HasAllRows (storage : StorageState) : Type 0 where
  pub held : length storage.held ≡ 12
  pub received : length storage.received ≡ 12

-- the wheel has received nothing
abbrev pub IsEmpty : Wheel → Type 0
IsEmpty wheel = wheel.received ≡ replicate 12 false

-- The machine between cycles: comparing has forgotten its sets and the pilots their pickups, the groups are idle and the wheels empty,
-- and the units are in number and order those of the panel.
pub record IsBetween (machine : MachineState) : Type 0 where
  pub comparing : machine.comparing ≡ comparing_at_start
  pub ordered : AreInUnitOrder machine.groups
  pub groups : All IsIdle machine.groups
  pub numbered : map storage_number machine.storage ≡ storage_units
  pub storage : All HasAllRows machine.storage
  pub transferred : length machine.pilots.transferred ≡ 16
  pub picked_up : machine.pilots.picked_up ≡ no_pilots
  pub many_wheels : length machine.wheels.wheels ≡ 120
  pub wheels : All IsEmpty machine.wheels.wheels

-- What a setup fixes in its machine between cycles: the jacks of the wheels, the tape, and which cycles print.
pub record IsSetUp (wiring : Wiring) (machine : MachineState) : Type 0 where
  pub wheels : machine.wheels.wheels ≡ map (wheel_at_start wiring) (range_with_len 1 120)
  pub form : machine.carriage.form ≡ wiring.tape
  pub carriage_prints : machine.carriage.printing ≡ printing_of wiring
  pub program_prints : machine.program.printing ≡ printing_of wiring

-- A machine is ready for a cycle: it is between cycles, and as its setup has it.
pub record IsReady (wiring : Wiring) (machine : MachineState) : Type 0 where
  pub between : IsBetween machine
  pub set_up : IsSetUp wiring machine
