-- Helper words of the code: the fault that was told first.
use Rattle.std.specs.Prelude.{Option, Some, None}
use Rattle.fault_lines.specs.declared.faults.fault.Fault.{Fault}

-- the first one, where there may be one more
abbrev pub first_with : (first told : Option Fault) → Option Fault
first_with None told = told
first_with (Some fault) told = Some fault
