-- The literals of a chart: 1 to 120 print characters or blanks.
use Rattle.std.specs.Prelude.{ℕ, ◌≤◌, ◌==◌, ◌&&◌, not, Bool, IsTrue, List, length, is_some}
use Rattle.std.specs.List.{list_all}
use Rattle.card_code.specs.CardCode.{rows_of}

-- a print character or a blank: a deck character but `!`
abbrev pub is_printable : ℕ → Bool
is_printable character = is_some (rows_of character) && not (character == 33)

-- the characters of a literal
pub record IsLiteralText (characters : List ℕ) : Type 0 where
  pub some : 1 ≤ length characters
  pub few : length characters ≤ 120
  pub printable : IsTrue (list_all is_printable characters)
