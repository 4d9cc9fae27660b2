-- The lines that name the cards which are too long.
use Rattle.std.specs.Prelude.{ℕ, ◌+◌, List, [], ◌∷◌, ◌++◌, if◌then◌else◌, length, nat_lt}
use Rattle.fault_lines.specs.FaultsWords.Lines.{fault_line}
use Rattle.fault_lines.specs.declared.faults.fault.Fault.TheVariants as fault

-- fault 1 of each line that has more than 80 bytes, a line for each; the first line has this number
abbrev pub long_cards : (number : ℕ) → List (List ℕ) → List ℕ
long_cards number [] = []
long_cards number (line ∷ lines) =
    if nat_lt 80 (length line) then fault_line (fault.Card 1 number) ++ long_cards (number + 1) lines else long_cards (number + 1) lines
