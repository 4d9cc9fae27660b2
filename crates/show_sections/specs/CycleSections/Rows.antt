-- The line of a cycle in rows: the cycle, and each thing that is told of it. In a trace three spaces and more stand between them.
use Rattle.std.specs.Prelude.{ℕ, ◌+◌, ◌==◌, ◌&&◌, Bool, false, not, List, [], ◌∷◌, ◌++◌, if◌then◌else◌, nat_le, replicate}

-- what stands for so many spaces: for three and more the end of a row
abbrev pub gap : ℕ → List ℕ
gap spaces = if nat_le 3 spaces then 10 ∷ [] else replicate spaces 32

-- whether what stands behind a byte stands inside of brackets, by whether the byte does
abbrev pub is_inside : Bool → ℕ → Bool
is_inside inside byte = if inside then not (byte == 93) else (byte == 91)

-- The rows of bytes behind so many spaces. Characters in brackets stay as they are, with all their spaces.
abbrev pub in_rows : (inside : Bool) → (spaces : ℕ) → List ℕ → List ℕ
in_rows inside spaces [] = gap spaces
in_rows inside spaces (byte ∷ bytes) =
    if (byte == 32) && not inside
    then in_rows inside (spaces + 1) bytes
    else gap spaces ++ byte ∷ in_rows (is_inside inside byte) 0 bytes

-- the rows of a line
abbrev pub rows_of : List ℕ → List ℕ
rows_of line = in_rows false 0 line
