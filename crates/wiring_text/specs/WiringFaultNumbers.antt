-- The numbers by which the faults of wiring charts are told.
use Rattle.std.specs.Prelude.{ℕ, Option, Some, None}
use Rattle.hubs.specs.SetupsWords.SetupFaults.{setup_fault_number}
use Rattle.wiring_text.specs.declared.fault.WiringFault.{WiringFault}
use Rattle.wiring_text.specs.declared.fault.WiringFault.TheVariants.{TooLarge, NoFirstLine, NotALine, LineTwice, Unfit, NoEnd, Memory}

-- the number of a fault; memory that runs out has none
abbrev pub wiring_fault_number : WiringFault → Option ℕ
wiring_fault_number TooLarge = Some 71
wiring_fault_number NoFirstLine = Some 72
wiring_fault_number (NotALine line) = Some 73
wiring_fault_number (LineTwice line) = Some 74
wiring_fault_number (Unfit line cause) = Some 75
wiring_fault_number NoEnd = Some 76
wiring_fault_number Memory = None

-- the number of the line at fault; faults of the whole text have none
abbrev pub faulty_line : WiringFault → Option ℕ
faulty_line (NotALine line) = Some line
faulty_line (LineTwice line) = Some line
faulty_line (Unfit line cause) = Some line
faulty_line TooLarge = None
faulty_line NoFirstLine = None
faulty_line NoEnd = None
faulty_line Memory = None

-- the number of the setup's fault that is the cause, where the panel can't have what a line says
abbrev pub cause_number : WiringFault → Option ℕ
cause_number (Unfit line cause) = setup_fault_number cause
cause_number fault = None
