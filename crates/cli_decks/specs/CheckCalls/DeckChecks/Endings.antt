-- How a check of a deck ends that has something to tell. The deck is known where its reader tells its bytes beforehand, and what is
-- written where the writer tells what it holds.
use Rattle.std.specs.Prelude.{◌≡◌, ◌≢◌, ◌⊎◌, ℕ, ◌+◌, ◌≤◌, List, [], ◌∷◌, Option, IfSome, All, length, take}
use Rattle.std.specs.Io.KnownBytes.{Appends}
use Rattle.card_code.specs.Lines.{lines_of}
use Rattle.card_code.specs.MostCards.{most_cards}
use Rattle.chart_rules.specs.ValidCard.{IsValidCard}
use Rattle.chart_lines.specs.ChartsWords.Chart.{Chart}
use Rattle.card_code.specs.Deck.{Deck}
use Rattle.cli_decks.specs.CheckCalls.DeckChecks.Fine.{fine_told}
use Rattle.cli_decks.specs.CheckCalls.DeckChecks.Listings.{HasListedLines, IsListing, lines_told}
use Rattle.fault_lines.specs.declared.faults.fault.Fault.{Fault}
use Rattle.fault_lines.specs.declared.faults.fault.Fault.TheVariants as fault
use Rattle.report_definition.specs.Totals.{Fits}

-- Why the reading of a deck ended after so many lines, with this text still to come: the reader failed at the next line, or there is a next
-- line after 999,999.
pub data CutsOff (count : ℕ) (rest : List ℕ) (told : Fault) : Type 0 where
  unread : told ≡ fault.Unread (count + 1) → CutsOff count rest told
  too_many : count ≡ most_cards → lines_of rest ≢ [] → told ≡ fault.Whole 3 → CutsOff count rest told

-- The reading ended before the end of the deck, and so much was listed.
pub record IsCutOff (chart : Chart) (text : List ℕ) (listed : List Fault) (told : Fault) : Type 0 where
  pub count : ℕ
  pub rest : List ℕ
  pub has_listed : HasListedLines chart text count rest listed
  pub cuts : CutsOff count rest told

-- Nothing is told of a deck, and these are its cards. All are valid for the chart, and all totals fit.
pub record IsFine (chart : Chart) (text : List ℕ) (cards : List (List ℕ)) : Type 0 where
  pub listing : IsListing chart text []
  pub deck : Deck text cards
  pub valid : All (IsValidCard chart) cards
  pub fit : Fits chart.lines cards

-- What a check had to write: lines of the listing, up to some line of the deck or to its end, or, where nothing is told of it, `ok` and
-- which cards there are.
pub data IsToWrite (chart : Chart) (text answer : List ℕ) : Type 0 where
  front : (count : ℕ) (rest : List ℕ) (told : List Fault) → HasListedLines chart text count rest told → answer ≡ lines_told told
      → IsToWrite chart text answer
  whole : (told : List Fault) → IsListing chart text told → answer ≡ lines_told told → IsToWrite chart text answer
  fine : (cards : List (List ℕ)) → IsFine chart text cards → answer ≡ fine_told cards → IsToWrite chart text answer

-- How a check ends that has something to tell. The whole deck is listed, and the first fault of the listing is told; the deck was not read to its
-- end, and why is told; or the output can't be written or memory is wanting, and the front of what was to be written stands.
pub data EndsCheck (chart : Chart) (deck old new : Option (List ℕ)) (told : Fault) : Type 0 where
  listed : (later : List Fault) → IfSome deck (λ text. IsListing chart text (told ∷ later)) → Appends old new (lines_told (told ∷ later))
      → EndsCheck chart deck old new told
  cut_off : (listed : List Fault) → IfSome deck (λ text. IsCutOff chart text listed told) → Appends old new (lines_told listed)
      → EndsCheck chart deck old new told
  unwritten : (answer : List ℕ) (count : ℕ) → IfSome deck (λ text. IsToWrite chart text answer) → count ≤ length answer
      → Appends old new (take count answer) → (told ≡ fault.Memory) ⊎ (told ≡ fault.Write) → EndsCheck chart deck old new told

-- `ok` was written, and which cards there are: those of the deck, if it is known.
pub record WritesFine (chart : Chart) (deck old new : Option (List ℕ)) : Type 0 where
  pub cards : List (List ℕ)
  pub fine : IfSome deck (λ text. IsFine chart text cards)
  pub written : Appends old new (fine_told cards)
