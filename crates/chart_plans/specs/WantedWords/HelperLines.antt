-- A helper of the code: lists of line numbers that begin with the lowest.
use Rattle.std.specs.Prelude.{ℕ, ◌<◌, ◌≤◌, List, length, slice_index}

-- the first of some numbers is the lowest of them
abbrev pub FirstIsLowest : List ℕ → Type 0
FirstIsLowest numbers = (place : ℕ) → place < length numbers → slice_index numbers 0 ≤ slice_index numbers place
