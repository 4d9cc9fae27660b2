-- The most cards that a deck has.
use Rattle.std.specs.Prelude.{ℕ}

-- as many cards as a deck has at most
abbrev pub most_cards : ℕ
most_cards = 999999
