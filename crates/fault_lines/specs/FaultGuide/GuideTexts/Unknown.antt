-- The line that tells of a number that no fault has.
use Rattle.std.specs.Prelude.{◌≡◌, ℕ, Bool, true, List, ◌++◌, Option, codes, decimal}
use Rattle.std.specs.Io.KnownBytes.{Appends}

-- the line, in the words of the parser of the command line
abbrev pub unknown_line : ℕ → List ℕ
unknown_line number = codes "error: no fault has the number " ++ decimal number ++ codes "\n"

-- the line is what a writer has taken, where it is told
abbrev pub IsUnknownTold : ℕ → Bool → (old new : Option (List ℕ)) → Type 0
IsUnknownTold number is_told old new = is_told ≡ true → Appends old new (unknown_line number)
