-- How many things there are, as people say it: no columns, 1 column, 2 columns.
use Rattle.std.specs.Prelude.{ℕ, List, [], ◌++◌, codes, decimal, ◌==◌, if◌then◌else◌}

-- how many
abbrev pub how_many : ℕ → List ℕ
how_many count = if count == 0 then codes "no" else decimal count

-- the ending of the word for so many things
abbrev pub plural : ℕ → List ℕ
plural count = if count == 1 then [] else codes "s"

-- so many things, between words before them and the word for one of them
unfoldable pub count_text : List ℕ → ℕ → List ℕ → List ℕ
count_text before count thing = before ++ how_many count ++ thing ++ plural count
