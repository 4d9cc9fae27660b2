-- Rows of contacts in which each thing has as many parts: helper words of the code that closes them.
use Rattle.std.specs.Prelude.{ℕ, ◌+◌, ◌-◌, ◌*◌, ◌^◌, Bool, List, [], ◌∷◌, if◌then◌else◌}

-- as many bits for a thing, all set or none
abbrev pub parts_of : ℕ → Bool → ℕ
parts_of parts test = if test then 2 ^ parts - 1 else 0

-- the word that has as many bits for each thing of a list, set for those that are set; the first thing has the lowest bits
unfoldable pub spread : ℕ → List Bool → ℕ
spread parts [] = 0
spread parts (thing ∷ things) = spread parts things * 2 ^ parts + parts_of parts thing
