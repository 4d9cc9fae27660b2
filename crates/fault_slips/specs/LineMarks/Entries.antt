-- What entries of faults have in common: a first line with the number of a line, the number of the fault and its name, and below it,
-- indented, the line, a mark under a part of it, and words.
use Rattle.std.specs.Prelude.{ℕ, ◌==◌, ◌&&◌, ◌||◌, List, ◌++◌, codes, decimal, map, nat_lt, not, if◌then◌else◌}
use Rattle.fault_slips.specs.LineMarks.Marks.{mark_text}
use Rattle.fault_slips.specs.declared.line_marks.span.Span.{Span}

-- the first line of an entry
abbrev pub head_line : ℕ → ℕ → List ℕ → List ℕ
head_line line number name = codes "line " ++ decimal line ++ codes " fault " ++ decimal number ++ codes " " ++ name ++ codes "\n"

-- a line below it
abbrev pub below : List ℕ → List ℕ
below text = codes "  " ++ text ++ codes "\n"

-- a byte as it is shown: a question mark stands for each that could steer a terminal, which are those below the blank but the tab, and 127
abbrev pub shown_byte : ℕ → ℕ
shown_byte byte = if (nat_lt byte 32 && not (byte == 9)) || (byte == 127) then 63 else byte

-- a line as it is shown, and a mark under a part of it
abbrev pub shown : List ℕ → Span → List ℕ
shown line span = below (map shown_byte line) ++ below (mark_text line span)
