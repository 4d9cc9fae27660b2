-- Words that are a letter away from one another.
use Rattle.std.specs.Prelude.{ℕ, ◌==◌, ◌&&◌, ◌||◌, Bool, false, List, [], ◌∷◌, length, if◌then◌else◌}
use Rattle.std.specs.Str.{bytes_eq}

-- whether the first two letters of two words are swapped, and the others are the same
abbrev pub is_swapped : List ℕ → List ℕ → Bool
is_swapped (a ∷ b ∷ ones) (c ∷ d ∷ others) = (a == d) && ((b == c) && bytes_eq ones others)
is_swapped one other = false

-- whether two words that begin with different letters are a letter away: one is another, too much, or swapped with the next
abbrev pub is_near_from : ℕ → List ℕ → ℕ → List ℕ → Bool
is_near_from first ones next others =
    bytes_eq ones others || (bytes_eq ones (next ∷ others) || (bytes_eq (first ∷ ones) others || is_swapped (first ∷ ones) (next ∷ others)))

-- whether two words are a letter away: what is left behind the letters with which both begin
unfoldable pub is_near : List ℕ → List ℕ → Bool
is_near [] [] = false
is_near [] (next ∷ others) = length others == 0
is_near (first ∷ ones) [] = length ones == 0
is_near (first ∷ ones) (next ∷ others) = if first == next then is_near ones others else is_near_from first ones next others
