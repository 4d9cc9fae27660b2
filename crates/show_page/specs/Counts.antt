-- How many things there are, as people say it: no cards, 1 card, 2 cards.
use Rattle.std.specs.Prelude.{ℕ, List, [], ◌++◌, codes, decimal, ◌==◌, if◌then◌else◌}

-- how many
abbrev pub how_many : ℕ → List ℕ
how_many number = if number == 0 then codes "no" else decimal number

-- the ending of the word for so many things
abbrev pub plural : ℕ → List ℕ
plural number = if number == 1 then [] else codes "s"

-- so many things, by the word for one of them
unfoldable pub counted : ℕ → List ℕ → List ℕ
counted number thing = how_many number ++ codes " " ++ thing ++ plural number
