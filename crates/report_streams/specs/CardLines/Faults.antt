-- What a fault says of the line that is read next.
use Rattle.std.specs.Prelude.{◌≡◌, ◌≢◌, ℕ, ◌+◌, ◌<◌, List, [], ◌∷◌, Option, Some}
use Rattle.card_code.specs.Deck.{HasLineFault, fault_number}
use Rattle.card_code.specs.Lines.{lines_of}
use Rattle.card_code.specs.MostCards.{most_cards}
use Rattle.card_code.specs.declared.deck.DeckFault.{DeckFault}
use Rattle.card_code.specs.declared.deck.DeckFault.TheVariants.{TooManyCards}
use Rattle.report_streams.specs.declared.card_lines.fault.ReadFault.{ReadFault}
use Rattle.report_streams.specs.declared.card_lines.fault.ReadFault.TheVariants as read

-- the number of a fault in the catalogue of faults
abbrev pub read_fault_number : ReadFault → Option ℕ
read_fault_number (read.Deck fault) = fault_number fault
read_fault_number (read.Read line) = Some 4
read_fault_number read.Failed = Some 5

-- the next line, after so many cards, is at fault
pub record IsLineAtFault (given : ℕ) (text : List ℕ) (fault : DeckFault) : Type 0 where
  pub few : given < most_cards
  pub line : List ℕ
  pub others : List (List ℕ)
  pub cut : lines_of text ≡ line ∷ others
  pub is_fault : HasLineFault line (given + 1) fault

-- What a fault says of the text that is still to come after so many cards: its next line is at fault, or there is one after 999,999 cards.
-- A failed read may come at any text, and what comes after a fault says nothing of it.
abbrev pub HasFaultNext : ℕ → List ℕ → ReadFault → Type 0
HasFaultNext given text (read.Deck TooManyCards) = (given ≡ most_cards) × (lines_of text ≢ [])
HasFaultNext given text (read.Deck fault) = IsLineAtFault given text fault
HasFaultNext given text (read.Read line) = line ≡ given + 1
HasFaultNext given text read.Failed = ⊥
