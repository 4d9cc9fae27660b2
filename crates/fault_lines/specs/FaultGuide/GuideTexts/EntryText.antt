-- The text of an entry of the guide to faults.
use Rattle.std.specs.Prelude.{ℕ, List, [], ◌∷◌, ◌++◌, codes, decimal}
use Rattle.fault_lines.specs.declared.fault_guide.table.FaultEntry.{FaultEntry}

-- the line with the number and the name of a fault
abbrev pub entry_heading : (number : ℕ) → (name : List ℕ) → List ℕ
entry_heading number name = codes "fault " ++ decimal number ++ codes " " ++ name ++ codes "\n"

-- one thing that an entry says: a line, or several of an example
abbrev pub named_line : (name words : List ℕ) → List ℕ
named_line name words = name ++ codes ": " ++ words ++ codes "\n"

-- the example; nothing where the guide has none
abbrev pub example_line : List ℕ → List ℕ
example_line [] = []
example_line (first ∷ others) = named_line (codes "example") (first ∷ others)

-- the number and the name of the fault, its cause and its cure, a line each, and its example
abbrev pub entry_text : FaultEntry → List ℕ
entry_text entry =
    entry_heading entry.number entry.name.now
    ++ named_line (codes "cause") entry.cause.now ++ named_line (codes "cure") entry.cure.now ++ example_line entry.example.now
