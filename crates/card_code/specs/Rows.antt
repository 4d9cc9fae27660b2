-- The twelve rows of a card: their numbers, and the order in which they pass the brushes.
use Rattle.std.specs.Prelude.{ℕ, ◌^◌, ◌&&◌, not, nat_lt, Bool, List, [], ◌∷◌}
use Rattle.card_code.specs.CardCode.{has_row}
use Rattle.card_code.specs.declared.row.Row.{Row}
use Rattle.card_code.specs.declared.row.Row.TheVariants.{Zero, One, Two, Three, Four, Five, Six, Seven, Eight, Nine, Eleven, Twelve}

-- the number of a row
abbrev pub row_number : Row → ℕ
row_number Zero = 0
row_number One = 1
row_number Two = 2
row_number Three = 3
row_number Four = 4
row_number Five = 5
row_number Six = 6
row_number Seven = 7
row_number Eight = 8
row_number Nine = 9
row_number Eleven = 11
row_number Twelve = 12

-- the rows in the order in which they pass the brushes
abbrev pub rows : List Row
rows =
    Nine ∷ Eight ∷ Seven ∷ Six ∷ Five ∷ Four ∷ Three ∷ Two ∷ One ∷ Zero ∷ Eleven ∷ Twelve ∷ []

-- the place of a row in that order, from 0
abbrev pub passing_place : Row → ℕ
passing_place Nine = 0
passing_place Eight = 1
passing_place Seven = 2
passing_place Six = 3
passing_place Five = 4
passing_place Four = 5
passing_place Three = 6
passing_place Two = 7
passing_place One = 8
passing_place Zero = 9
passing_place Eleven = 10
passing_place Twelve = 11

-- whether a set of rows has rows of a card alone: none above 12, and no row 10
abbrev pub is_row_set : ℕ → Bool
is_row_set set = nat_lt set (2 ^ 13) && not (has_row set 10)
