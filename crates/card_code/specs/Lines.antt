-- The lines of a text.
use Rattle.std.specs.Prelude.{ℕ, List, [], ◌∷◌, if◌then◌else◌, ◌==◌}

-- a byte put before the first piece
abbrev pub onto : ℕ → List (List ℕ) → List (List ℕ)
onto b [] = (b ∷ []) ∷ []
onto b (piece ∷ pieces) = (b ∷ piece) ∷ pieces

-- A text is cut at each LF: the pieces before, between and after them, at least one.
abbrev pub pieces : List ℕ → List (List ℕ)
pieces [] = [] ∷ []
pieces (b ∷ bs) = if b == 10 then [] ∷ pieces bs else onto b (pieces bs)

-- a piece without the one CR at its end, if it has one there
abbrev pub without_cr : List ℕ → List ℕ
without_cr [] = []
without_cr (b ∷ []) = if b == 13 then [] else b ∷ []
without_cr (b ∷ c ∷ bs) = b ∷ without_cr (c ∷ bs)

-- the last piece is a line where something is left of it
abbrev pub last_line : List ℕ → List (List ℕ)
last_line [] = []
last_line (b ∷ bs) = (b ∷ bs) ∷ []

-- Each piece that an LF ends is a line without its CR, and so is the last one where something is left.
abbrev pub lines_of_pieces : List (List ℕ) → List (List ℕ)
lines_of_pieces [] = []
lines_of_pieces (piece ∷ []) = last_line (without_cr piece)
lines_of_pieces (piece ∷ next ∷ others) = without_cr piece ∷ lines_of_pieces (next ∷ others)

-- the lines of a text
unfoldable pub lines_of : List ℕ → List (List ℕ)
lines_of bytes = lines_of_pieces (pieces bytes)
