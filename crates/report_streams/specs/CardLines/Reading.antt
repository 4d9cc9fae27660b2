-- Cards that come off the front of what a source gives.
use Rattle.std.specs.Prelude.{◌≡◌, ℕ, ◌+◌, ◌<◌, ◌⊎◌, Bool, true, false, List, [], ◌∷◌, ◌++◌, Option, Some, drop, take}
use Rattle.std.specs.Io.KnownBytes.{prepend_known}
use Rattle.card_code.specs.Deck.{IsCardOf}
use Rattle.card_code.specs.Lines.{lines_of, without_cr}
use Rattle.card_code.specs.MostCards.{most_cards}
use Rattle.report_streams.specs.CardLines.Front.{IsLine, IsTooLong, line_end}

-- A reading of cards: its source, the bytes held that were read and not given yet, how many cards were given, whether the end of the source
-- was met, and whether a fault was told.
pub record Reading (S : Type 0) : Type 0 where
  pub source : S
  pub held : List ℕ
  pub given : ℕ
  pub at_end : Bool
  pub has_failed : Bool

-- the text still to come, where it is known: the bytes held, and then those that the source has left
abbrev pub still_to_come : {S : Type 0} → (S → Option (List ℕ)) → Reading S → Option (List ℕ)
still_to_come left reading = prepend_known reading.held (left reading.source)

-- a whole line, or one that is surely too long, is held
abbrev pub IsSettled : List ℕ → Type 0
IsSettled held = ((end : ℕ) × IsLine held end) ⊎ IsTooLong held

-- The line to come is there: it is held whole, or it is surely too long, or the source has ended.
abbrev pub IsThere : {S : Type 0} → Reading S → Type 0
IsThere reading = IsSettled reading.held ⊎ (reading.at_end ≡ true)

-- What is taken off the front of a text ends in an LF, and the rest is still to come.
pub record TakesEndedLine (text : List ℕ) (to_come : Option (List ℕ)) : Type 0 where
  pub line : List ℕ
  pub rest : List ℕ
  pub parts : text ≡ line ++ 10 ∷ rest
  pub left : to_come ≡ Some rest

-- No card is left: the end of the source was met, nothing but one CR at most is held, and no fault was told.
pub record IsOver {S : Type 0} (reading : Reading S) : Type 0 where
  pub at_end : reading.at_end ≡ true
  pub nothing_held : without_cr reading.held ≡ []
  pub well : reading.has_failed ≡ false

-- The card after so many others is that of the first line of a text, and the rest of the text, which has the others, is then still to come.
pub record GivesCard (given : ℕ) (text card : List ℕ) (to_come : Option (List ℕ)) : Type 0 where
  pub few : given < most_cards
  pub line : List ℕ
  pub front : List ℕ
  pub rest : List ℕ
  pub parts : text ≡ front ++ rest
  pub left : to_come ≡ Some rest
  pub cut : lines_of text ≡ line ∷ lines_of rest
  pub punched : IsCardOf line card

-- With the bytes that come after those held, the first line is what is held before the first LF, and the other lines begin behind that.
abbrev pub HasFirstLine : (held rest : List ℕ) → Type 0
HasFirstLine held rest = lines_of (held ++ rest) ≡ without_cr (take (line_end held) held) ∷ lines_of (drop (line_end held + 1) held ++ rest)
