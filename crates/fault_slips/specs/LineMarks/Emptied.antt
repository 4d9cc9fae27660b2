-- A text of which one line is emptied.
use Rattle.std.specs.Prelude.{ℕ, ◌-◌, ◌==◌, List, [], ◌∷◌, ◌++◌, if◌then◌else◌}

-- what is left of a byte where the line with a number, counted from that of the byte, is emptied: nothing of a byte of that line but LF
abbrev pub kept : ℕ → ℕ → List ℕ
kept line byte = if byte == 10 then byte ∷ [] else if line == 1 then [] else byte ∷ []

-- the number of that line, counted from that of the next byte
abbrev pub line_left : ℕ → ℕ → ℕ
line_left line byte = if byte == 10 then line - 1 else line

-- a text without what stands on the line with a number, counted from 1
unfoldable pub emptied : ℕ → List ℕ → List ℕ
emptied line [] = []
emptied line (byte ∷ bytes) = kept line byte ++ emptied (line_left line byte) bytes
