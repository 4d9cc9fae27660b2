-- The line that is told of each fault: its words and figures, as the catalogue of faults has them, and LF. Figures are written in
-- decimal, without leading zeros; a name without the blanks that fill it.
use Rattle.std.specs.Prelude.{◌≡◌, ℕ, Bool, true, List, ◌++◌, Option, codes, decimal}
use Rattle.std.specs.Io.KnownBytes.{Appends}
use Rattle.chart_lines.specs.ChartsWords.Name.{name_text}
use Rattle.fault_lines.specs.declared.faults.fault.Fault.{Fault}
use Rattle.fault_lines.specs.declared.faults.fault.Fault.TheVariants as fault

-- the words and figures of a fault
abbrev pub fault_text : Fault → List ℕ
fault_text (fault.Whole number) = codes "fault " ++ decimal number
fault_text (fault.Line number line) = codes "fault " ++ decimal number ++ codes " line " ++ decimal line
fault_text (fault.Cause number line cause) =
    codes "fault " ++ decimal number ++ codes " line " ++ decimal line ++ codes " cause " ++ decimal cause
fault_text (fault.Card number card) = codes "fault " ++ decimal number ++ codes " card " ++ decimal card
fault_text (fault.Column number card column) =
    codes "fault " ++ decimal number ++ codes " card " ++ decimal card ++ codes " column " ++ decimal column
fault_text (fault.Counters number width wanted there) =
    codes "fault " ++ decimal number ++ codes " width " ++ decimal width ++ codes " wanted " ++ decimal wanted
    ++ codes " there " ++ decimal there
fault_text (fault.Capacity number wanted there) =
    codes "fault " ++ decimal number ++ codes " wanted " ++ decimal wanted ++ codes " there " ++ decimal there
fault_text (fault.Indicate number level wanted there) =
    codes "fault " ++ decimal number ++ codes " level " ++ decimal level ++ codes " wanted " ++ decimal wanted
    ++ codes " there " ++ decimal there
fault_text (fault.Total number level name card) =
    codes "fault " ++ decimal number ++ codes " level " ++ decimal level ++ codes " name " ++ name_text name
    ++ codes " card " ++ decimal card
fault_text (fault.Unknown word) = codes "fault command " ++ word.now
fault_text (fault.File path) = codes "fault file " ++ path.now
fault_text (fault.Unread card) = codes "fault 4 card " ++ decimal card
fault_text fault.Write = codes "fault write"
fault_text fault.Memory = codes "fault memory"

-- the line of a fault
abbrev pub fault_line : Fault → List ℕ
fault_line told = fault_text told ++ codes "\n"

-- the line of a fault is what a writer has taken, where it is told
abbrev pub IsTold : Fault → Bool → (old new : Option (List ℕ)) → Type 0
IsTold told is_told old new = is_told ≡ true → Appends old new (fault_line told)
