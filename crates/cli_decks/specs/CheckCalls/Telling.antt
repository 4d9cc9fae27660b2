-- What is told of a check of a deck.
use Rattle.std.specs.Prelude.{Bool, true, false}
use Rattle.fault_lines.specs.declared.faults.fault.Fault.{Fault}
use Rattle.fault_lines.specs.declared.faults.fault.Fault.TheVariants as fault

-- whether a fault is that of a bad card or of a total: with it begins what a check lists of a deck
abbrev pub heads_list : Fault → Bool
heads_list (fault.Card number card) = true
heads_list (fault.Column number card column) = true
heads_list (fault.Total number level name card) = true
heads_list other = false
