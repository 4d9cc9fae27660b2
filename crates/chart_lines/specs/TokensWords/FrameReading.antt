-- What the tests of a text's frame answer, as functions of its lines.
-- These are steps between the code and the frame: is_larger and is_title_line promise the relations of Frame.
use Rattle.std.specs.Prelude.{ℕ, ◌&&◌, ◌||◌, Bool, false, List, [], ◌∷◌, length, Option, Some, nat_lt}
use Rattle.std.specs.List.{list_any}
use Rattle.std.specs.Str.{bytes_eq}
use Rattle.chart_lines.specs.TokensWords.Dividing.{tokens_of}

-- whether a line has more bytes than these
abbrev pub is_longer : ℕ → List ℕ → Bool
is_longer most_bytes line = nat_lt most_bytes (length line)

-- whether there are more lines than these, or a line of more bytes than these
abbrev pub is_larger : ℕ → ℕ → List (List ℕ) → Bool
is_larger most_lines most_bytes lines = nat_lt most_lines (length lines) || list_any (is_longer most_bytes) lines

-- whether tokens are a name and a version
abbrev pub are_title : List ℕ → List ℕ → Option (List (List ℕ)) → Bool
are_title name version (Some (first ∷ second ∷ [])) = bytes_eq first name && bytes_eq second version
are_title name version _ = false

-- whether a line is a name and a version
abbrev pub is_title_line : List ℕ → List ℕ → List ℕ → Bool
is_title_line name version line = are_title name version (tokens_of line)
