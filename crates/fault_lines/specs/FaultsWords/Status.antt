-- The program's status for a fault: 2 for a command that there isn't, 3 for refused input, 4 for a file, a deck that can't be read or the output, 5 for memory.
use Rattle.std.specs.Prelude.{ℕ}
use Rattle.fault_lines.specs.declared.faults.fault.Fault.{Fault}
use Rattle.fault_lines.specs.declared.faults.fault.Fault.TheVariants as fault

-- the status of a fault
abbrev pub status_of : Fault → ℕ
status_of (fault.Whole number) = 3
status_of (fault.Line number line) = 3
status_of (fault.Cause number line cause) = 3
status_of (fault.Card number card) = 3
status_of (fault.Column number card column) = 3
status_of (fault.Counters number width wanted there) = 3
status_of (fault.Capacity number wanted there) = 3
status_of (fault.Indicate number level wanted there) = 3
status_of (fault.Total number level name card) = 3
status_of (fault.Unknown word) = 2
status_of (fault.File path) = 4
status_of (fault.Unread card) = 4
status_of fault.Write = 4
status_of fault.Memory = 5
