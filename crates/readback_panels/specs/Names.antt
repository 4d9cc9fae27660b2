-- Words that are names of the language, and those that begin as a name by columns does.
use Rattle.std.specs.Prelude.{ℕ, ◌==◌, ◌&&◌, ◌||◌, Bool, false, List, [], ◌∷◌, length, nat_le}
use Rattle.std.specs.Char.{is_ascii_digit}
use Rattle.chart_lines.specs.ChartsWords.Name.{begins_with_letter}

-- whether the bytes are a name of the language
abbrev pub is_name : List ℕ → Bool
is_name word = nat_le (length word) 8 && begins_with_letter word

-- whether they begin with A, C or F and a digit
abbrev pub is_by_columns : List ℕ → Bool
is_by_columns [] = false
is_by_columns (letter ∷ []) = false
is_by_columns (letter ∷ digit ∷ others) =
    ((letter == 65) || (letter == 67) || (letter == 70)) && is_ascii_digit digit
