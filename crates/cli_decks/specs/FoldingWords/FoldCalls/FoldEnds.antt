-- What the command has written where it ends well, and what it has told where it doesn't. What is written is known where the writer tells
-- what it holds.
use Rattle.std.specs.Prelude.{◌≡◌, ℕ, Bool, false, true, List, Option, take}
use Rattle.std.specs.Io.KnownBytes.{Appends}
use Rattle.card_code.specs.Deck.{HasDeckFault, IsDeckText}
use Rattle.card_code.specs.Lines.{lines_of}
use Rattle.card_code.specs.MostCards.{most_cards}
use Rattle.card_code.specs.declared.deck.DeckFault.{DeckFault}
use Rattle.card_code.specs.declared.deck.DeckFault.TheVariants as deck
use Rattle.fault_lines.specs.FaultsWords.Lines.{IsTold}
use Rattle.fault_lines.specs.FaultsWords.ToldFaults.{deck_told}
use Rattle.cli_decks.specs.FoldingWords.FoldCalls.LongCards.{long_cards}
use Rattle.cli_decks.specs.FoldingWords.Changes.{IsTally}
use Rattle.cli_decks.specs.FoldingWords.Folded.{folded_text}
use Rattle.cli_decks.specs.FoldingWords.ToldChanges.{changes_text}
use Rattle.cli_decks.specs.declared.folding.changes.Change.TheVariants as change
use Rattle.cli_decks.specs.declared.folding.folding.Changes.{Changes}

-- the changes that were made in lines
pub record AreChangesIn (lines : List (List ℕ)) (changes : Changes) : Type 0 where
  pub capitals : IsTally change.Capital lines changes.capitals
  pub tabs : IsTally change.Blanks lines changes.tabs
  pub others : IsTally change.Replaced lines changes.others

-- The text, folded, is a deck, and was written after what was there.
pub record WritesFolded (text : List ℕ) (fill : ℕ) (old new : Option (List ℕ)) : Type 0 where
  pub is_deck : IsDeckText (folded_text fill (lines_of text))
  pub written : Appends old new (folded_text fill (lines_of text))

-- So it was, and what was changed in it was told.
pub record WritesDeck (text : List ℕ) (fill : ℕ) (old new told_before told : Option (List ℕ)) : Type 0 where
  pub folded : WritesFolded text fill old new
  pub changes : Changes
  pub are_changes : AreChangesIn (lines_of text) changes
  pub tells : Appends told_before told (changes_text changes)

-- whether the fault of a deck is a line that is too long
abbrev pub is_too_long : DeckFault → Bool
is_too_long (deck.CardTooLong line) = true
is_too_long other = false

-- The folded text is no deck: a line of it is too long, and each such line is told of; or it has another fault, and that is told.
pub data IsRefused (folded : List ℕ) (is_told : Bool) (old new : Option (List ℕ)) : Type 0 where
  long_lines : (line : ℕ) → HasDeckFault folded (deck.CardTooLong line)
      → (is_told ≡ true → Appends old new (long_cards 1 (take most_cards (lines_of folded)))) → IsRefused folded is_told old new
  no_deck : (fault : DeckFault) → HasDeckFault folded fault → is_too_long fault ≡ false
      → IsTold (deck_told fault) is_told old new → IsRefused folded is_told old new
