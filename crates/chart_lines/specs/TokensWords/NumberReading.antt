-- What the readers of numbers answer, as functions of tokens.
-- These are steps between the code and the grammar: read_number and read_number_to promise the relations of Number.
use Rattle.std.specs.Prelude.{ℕ, ◌+◌, ◌-◌, ◌*◌, ◌==◌, ◌&&◌, List, [], ◌∷◌, Option, Some, None, if◌then◌else◌, nat_le}
use Rattle.std.specs.Char.{is_ascii_digit}
use Rattle.chart_lines.specs.TokensWords.Steps.{◌>>=◌}

-- the digit of a byte
abbrev pub digit_of : ℕ → Option ℕ
digit_of byte = if is_ascii_digit byte then Some (byte - 48) else None

-- the number that a token is
unfoldable pub number_of : List ℕ → Option ℕ
number_of [] = None
number_of (a ∷ []) = digit_of a
number_of (a ∷ b ∷ []) = if a == 48 then None else (do
  tens ← digit_of a
  units ← digit_of b
  Some (10 * tens + units))
number_of (a ∷ b ∷ c ∷ []) = if a == 48 then None else (do
  hundreds ← digit_of a
  tens ← digit_of b
  units ← digit_of c
  Some (100 * hundreds + 10 * tens + units))
number_of (a ∷ b ∷ c ∷ d ∷ bytes) = None

-- the number that a token is, where it is 1 to the greatest
unfoldable pub number_to : ℕ → List ℕ → Option ℕ
number_to greatest token = do
  number ← number_of token
  if nat_le 1 number && nat_le number greatest then Some number else None

-- the numbers that tokens are
abbrev pub numbers_of : List (List ℕ) → Option (List ℕ)
numbers_of [] = Some []
numbers_of (token ∷ tokens) = do
  number ← number_of token
  numbers ← numbers_of tokens
  Some (number ∷ numbers)
