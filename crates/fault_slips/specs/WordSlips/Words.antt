-- What single words are.
use Rattle.std.specs.Prelude.{ℕ, ◌==◌, ◌&&◌, Bool, false, List, [], ◌∷◌, length, is_some, nat_le}
use Rattle.chart_lines.specs.ChartsWords.Name.{begins_with_letter}
use Rattle.chart_lines.specs.TokensWords.NumberReading.{number_of, number_to}

-- a number
abbrev pub is_number : List ℕ → Bool
is_number text = is_some (number_of text)

-- a number of 1 to the greatest
abbrev pub is_up_to : ℕ → List ℕ → Bool
is_up_to greatest text = is_some (number_to greatest text)

-- a name
abbrev pub is_name : List ℕ → Bool
is_name text = nat_le (length text) 8 && begins_with_letter text

-- A literal of 1 to 120 characters, whatever these are: a word that begins with an apostrophe is one up to the next apostrophe.
abbrev pub is_literal : List ℕ → Bool
is_literal [] = false
is_literal (first ∷ others) = (first == 39) && (nat_le 2 (length others) && nat_le (length others) 121)
