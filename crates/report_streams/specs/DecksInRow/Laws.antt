-- Laws of decks in a row.
use Rattle.std.specs.Prelude.{◌≡◌, ℕ, List, [], ◌∷◌, ◌++◌}
use Rattle.card_code.specs.Lines.{lines_of}
use Rattle.report_streams.specs.DecksInRow.InRow.{in_row}

-- the lines of decks, those of one deck behind those of the other
abbrev pub lines_of_all : List (List ℕ) → List (List ℕ)
lines_of_all [] = []
lines_of_all (deck ∷ decks) = lines_of deck ++ lines_of_all decks

-- The cards of decks in a row are those of the first, then those of the second, and so on: no card is joined to the next, and none comes
-- between.
abbrev pub DecksKeepTheirLines : Type 0
DecksKeepTheirLines = (decks : List (List ℕ)) → lines_of (in_row decks) ≡ lines_of_all decks
