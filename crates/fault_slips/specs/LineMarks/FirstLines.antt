-- The first line of a text that passes a test, and that of END.
use Rattle.std.specs.Prelude.{ℕ, ◌&&◌, Bool, List, [], ◌∷◌, Option, Some, None, suc, codes, if◌then◌else◌}
use Rattle.std.specs.Str.{bytes_eq}
use Rattle.card_code.specs.Lines.{lines_of}
use Rattle.fault_slips.specs.LineMarks.Spans.{word}

-- the number of the first of some lines that passes a test, the first of them having this number
abbrev pub first_of : (List ℕ → Bool) → ℕ → List (List ℕ) → Option ℕ
first_of test number [] = None
first_of test number (line ∷ lines) = if test line then Some number else first_of test (suc number) lines

-- the number of the first line of a text that passes it, from 1
abbrev pub first_line : (List ℕ → Bool) → List ℕ → Option ℕ
first_line test text = first_of test 1 (lines_of text)

-- whether END stands alone on a line
abbrev pub is_end : List ℕ → Bool
is_end line = bytes_eq (word 0 line) (codes "END") && bytes_eq (word 1 line) []
