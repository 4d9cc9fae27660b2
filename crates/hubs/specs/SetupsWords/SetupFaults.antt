-- The numbers by which the faults of setups and tapes are told.
use Rattle.std.specs.Prelude.{ℕ, Option, Some, None}
use Rattle.hubs.specs.declared.setups.fault.SetupFault.{SetupFault}
use Rattle.hubs.specs.declared.setups.fault.SetupFault.TheVariants.{NotExit, NotEntry, CarryRing, TapeFault, Memory}

-- the number of a fault; memory that runs out has none
abbrev pub setup_fault_number : SetupFault → Option ℕ
setup_fault_number NotExit = Some 51
setup_fault_number NotEntry = Some 52
setup_fault_number CarryRing = Some 53
setup_fault_number TapeFault = Some 54
setup_fault_number Memory = None
