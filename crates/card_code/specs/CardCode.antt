-- The card code: which set of punched rows stands for which character.
use Rattle.std.specs.Prelude.{ℕ, ◌+◌, ◌^◌, Bool, List, [], ◌∷◌, Option, Some, None, if◌then◌else◌, ◌==◌, true, ◌&&◌, not, is_some}
use Rattle.std.specs.Int.{bit_at}

-- A set of rows is a number: row r, one of 0 to 9, 11 and 12, is in it where bit r is 1.
abbrev pub set_of : List ℕ → ℕ
set_of [] = 0
set_of (r ∷ rs) = 2 ^ r + set_of rs

-- whether row r is in the set
abbrev pub has_row : ℕ → ℕ → Bool
has_row set r = bit_at set r == 1

-- the set with row r in it too
abbrev pub with_row : ℕ → ℕ → ℕ
with_row set r = if has_row set r then set else set + 2 ^ r

-- the code: each deck character with its rows
unfoldable pub code : List (ℕ × ℕ)
code =
    (32, set_of []) ∷  -- blank
    (48, set_of (0 ∷ [])) ∷ (49, set_of (1 ∷ [])) ∷ (50, set_of (2 ∷ [])) ∷  -- 0 to 2
    (51, set_of (3 ∷ [])) ∷ (52, set_of (4 ∷ [])) ∷ (53, set_of (5 ∷ [])) ∷  -- 3 to 5
    (54, set_of (6 ∷ [])) ∷ (55, set_of (7 ∷ [])) ∷ (56, set_of (8 ∷ [])) ∷ (57, set_of (9 ∷ [])) ∷  -- 6 to 9
    (65, set_of (12 ∷ 1 ∷ [])) ∷ (66, set_of (12 ∷ 2 ∷ [])) ∷ (67, set_of (12 ∷ 3 ∷ [])) ∷  -- A to C
    (68, set_of (12 ∷ 4 ∷ [])) ∷ (69, set_of (12 ∷ 5 ∷ [])) ∷ (70, set_of (12 ∷ 6 ∷ [])) ∷  -- D to F
    (71, set_of (12 ∷ 7 ∷ [])) ∷ (72, set_of (12 ∷ 8 ∷ [])) ∷ (73, set_of (12 ∷ 9 ∷ [])) ∷  -- G to I
    (74, set_of (11 ∷ 1 ∷ [])) ∷ (75, set_of (11 ∷ 2 ∷ [])) ∷ (76, set_of (11 ∷ 3 ∷ [])) ∷  -- J to L
    (77, set_of (11 ∷ 4 ∷ [])) ∷ (78, set_of (11 ∷ 5 ∷ [])) ∷ (79, set_of (11 ∷ 6 ∷ [])) ∷  -- M to O
    (80, set_of (11 ∷ 7 ∷ [])) ∷ (81, set_of (11 ∷ 8 ∷ [])) ∷ (82, set_of (11 ∷ 9 ∷ [])) ∷  -- P to R
    (83, set_of (0 ∷ 2 ∷ [])) ∷ (84, set_of (0 ∷ 3 ∷ [])) ∷ (85, set_of (0 ∷ 4 ∷ [])) ∷  -- S to U
    (86, set_of (0 ∷ 5 ∷ [])) ∷ (87, set_of (0 ∷ 6 ∷ [])) ∷ (88, set_of (0 ∷ 7 ∷ [])) ∷  -- V to X
    (89, set_of (0 ∷ 8 ∷ [])) ∷ (90, set_of (0 ∷ 9 ∷ [])) ∷  -- Y to Z
    (38, set_of (12 ∷ [])) ∷  -- &
    (45, set_of (11 ∷ [])) ∷  -- -
    (47, set_of (0 ∷ 1 ∷ [])) ∷  -- /
    (46, set_of (12 ∷ 3 ∷ 8 ∷ [])) ∷  -- .
    (36, set_of (11 ∷ 3 ∷ 8 ∷ [])) ∷  -- $
    (42, set_of (11 ∷ 4 ∷ 8 ∷ [])) ∷  -- *
    (44, set_of (0 ∷ 3 ∷ 8 ∷ [])) ∷  -- ,
    (37, set_of (0 ∷ 4 ∷ 8 ∷ [])) ∷  -- %
    (35, set_of (3 ∷ 8 ∷ [])) ∷  -- #
    (64, set_of (4 ∷ 8 ∷ [])) ∷  -- @
    (33, set_of (11 ∷ 0 ∷ [])) ∷  -- !
    []

-- the character of a set of rows, in a list of pairs
abbrev pub character_in : List (ℕ × ℕ) → ℕ → Option ℕ
character_in [] set = None
character_in (pair ∷ pairs) set = if pair.1 == set then Some pair.0 else character_in pairs set

-- the set of rows of a character, in a list of pairs
abbrev pub rows_in : List (ℕ × ℕ) → ℕ → Option ℕ
rows_in [] character = None
rows_in (pair ∷ pairs) character = if pair.0 == character then Some pair.1 else rows_in pairs character

-- in a list of pairs no character and no set stands twice
abbrev pub is_one_to_one : List (ℕ × ℕ) → Bool
is_one_to_one [] = true
is_one_to_one (pair ∷ pairs) =
    not (is_some (rows_in pairs pair.0)) && not (is_some (character_in pairs pair.1)) && is_one_to_one pairs

-- the deck character of a set of rows
unfoldable pub deck_character : ℕ → Option ℕ
deck_character set = character_in code set

-- the rows of a deck character
unfoldable pub rows_of : ℕ → Option ℕ
rows_of character = rows_in code character

-- what a wheel prints for a set: its character, and a blank for `!` and for a set without one
abbrev pub printed_for : Option ℕ → ℕ
printed_for None = 32
printed_for (Some character) = if character == 33 then 32 else character

-- the print character of a set of rows
unfoldable pub print_character : ℕ → ℕ
print_character set = printed_for (deck_character set)
