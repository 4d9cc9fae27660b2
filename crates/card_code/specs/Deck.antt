-- A deck text: one card a line, each byte of the line a column punched by the card code.
use Rattle.std.specs.Prelude.{◌≡◌, ℕ, ◌+◌, ◌-◌, ◌<◌, ◌≤◌, List, [], ◌∷◌, length, take, slice_index, slice_index_or, All, EachIndex, IsSome, Option, Some, None}
use Rattle.std.specs.List.{AllZip}
use Rattle.card_code.specs.MostCards.{most_cards}
use Rattle.card_code.specs.CardCode.{deck_character, rows_of}
use Rattle.card_code.specs.Lines.{lines_of}
use Rattle.card_code.specs.declared.deck.DeckFault.{DeckFault}
use Rattle.card_code.specs.declared.deck.DeckFault.TheVariants.{CardTooLong, NoSuchCharacter, TooManyCards, Memory}

-- the number of a fault in the catalogue of faults; want of memory has none
abbrev pub fault_number : DeckFault → Option ℕ
fault_number (CardTooLong line) = Some 1
fault_number (NoSuchCharacter line column) = Some 2
fault_number TooManyCards = Some 3
fault_number Memory = None

-- each column of a card has the rows of a deck character, if only of the blank, as on each card that is punched from a line
abbrev pub HasCharacters : List ℕ → Type 0
HasCharacters card = (k : ℕ) → IsSome (deck_character (slice_index card k))

-- the card of a line: each byte is punched in its column, and the columns after the line are blank
pub record IsCardOf (line card : List ℕ) : Type 0 where
  pub short : length line ≤ 80
  pub whole : length card ≡ 80
  pub punched : (k : ℕ) → k < length line → rows_of (slice_index line k) ≡ Some (slice_index card k)
  pub blank : (k : ℕ) → length line ≤ k → slice_index card k ≡ 0

-- the cards of a deck text, at most 999,999: one for each line, in order
pub record Deck (bytes : List ℕ) (cards : List (List ℕ)) : Type 0 where
  pub few : length cards ≤ most_cards
  pub each : AllZip IsCardOf (lines_of bytes) cards

-- a text that is a deck
pub record IsDeckText (bytes : List ℕ) : Type 0 where
  pub cards : List (List ℕ)
  pub deck : Deck bytes cards

-- a card comes first in the deck of a text, and the rest of the text has the others
pub record ComesFirst (bytes card rest : List ℕ) : Type 0 where
  pub others : List (List ℕ)
  pub whole : Deck bytes (card ∷ others)
  pub left : Deck rest others

-- a line that a card can be punched from: at most 80 bytes, each a deck character
pub record IsPunchable (line : List ℕ) : Type 0 where
  pub short : length line ≤ 80
  pub characters : EachIndex line (λ k. IsSome (rows_of (slice_index line k)))

-- the column, from 1, of the first byte that is no deck character, in a line that is not too long
pub record IsOddColumn (line : List ℕ) (column : ℕ) : Type 0 where
  pub short : length line ≤ 80
  pub from : 1 ≤ column
  pub to : column ≤ length line
  pub odd : rows_of (slice_index line (column - 1)) ≡ None
  pub before : (k : ℕ) → k + 1 < column → IsSome (rows_of (slice_index line k))

-- what keeps the line with this number from being punched
abbrev pub HasLineFault : List ℕ → ℕ → DeckFault → Type 0
HasLineFault line number (CardTooLong n) = (n ≡ number) × (80 < length line)
HasLineFault line number (NoSuchCharacter n column) = (n ≡ number) × IsOddColumn line column
HasLineFault line number TooManyCards = ⊥
HasLineFault line number Memory = ⊥

-- a line, from 1, of the first 999,999 that comes after punchable lines alone
pub record IsReached (bytes : List ℕ) (line : ℕ) : Type 0 where
  pub from : 1 ≤ line
  pub to : line ≤ most_cards
  pub within : line ≤ length (lines_of bytes)
  pub before : All IsPunchable (take (line - 1) (lines_of bytes))

-- the line with a number from 1
abbrev pub line_at : List ℕ → ℕ → List ℕ
line_at bytes line = slice_index_or (lines_of bytes) (line - 1) []

-- the fault that a text is refused for: that of its first line at fault, or a million lines of which
-- the first 999,999 are punchable; no text makes memory run out
abbrev pub HasDeckFault : List ℕ → DeckFault → Type 0
HasDeckFault bytes (CardTooLong line) = IsReached bytes line × (80 < length (line_at bytes line))
HasDeckFault bytes (NoSuchCharacter line column) = IsReached bytes line × IsOddColumn (line_at bytes line) column
HasDeckFault bytes TooManyCards = (most_cards < length (lines_of bytes)) × All IsPunchable (take most_cards (lines_of bytes))
HasDeckFault bytes Memory = ⊥
