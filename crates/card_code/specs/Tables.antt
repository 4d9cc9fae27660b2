-- The card code as tables of sets, which have rows by their places.
use Rattle.std.specs.Prelude.{ℕ, ◌%◌, ◌==◌, nat_lt, List, Option, Some, None, slice_index, if◌then◌else◌}

-- The set that an entry stands for. One that has bits behind those of the twelve rows is that of no deck character.
abbrev pub entry : ℕ → Option ℕ
entry set = if nat_lt set 4096 then Some set else None

-- the character at the place of a set, if that place has the set
abbrev pub matching : List ℕ → List ℕ → ℕ → Option ℕ
matching sets characters set =
    if slice_index sets (set % 187) == set then Some (slice_index characters (set % 187)) else None
