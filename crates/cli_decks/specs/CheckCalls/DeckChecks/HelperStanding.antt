-- Helper words of the code: how a check stands between two lines.
use Rattle.std.specs.Prelude.{◌≡◌, ◌⊎◌, ℕ, ◌≤◌, Bool, true, false, List, [], ◌∷◌, ◌++◌, Option, Some, None, IfSome, length, slice_get, take}
use Rattle.std.specs.Io.KnownBytes.{Appends}
use Rattle.card_code.specs.Lines.{lines_of}
use Rattle.card_code.specs.MostCards.{most_cards}
use Rattle.chart_lines.specs.ChartsWords.Chart.{Chart}
use Rattle.chart_lines.specs.declared.charts.chart.Line.{Line}
use Rattle.cli_decks.specs.CheckCalls.DeckChecks.BadLines.{IsBadLine, IsGoodLine}
use Rattle.cli_decks.specs.CheckCalls.DeckChecks.Listings.{IsListing, Lists, lines_told, totals_told, with_card}
use Rattle.cli_decks.specs.declared.check_calls.deck_checks.standing.Standing.{Standing}
use Rattle.cli_decks.specs.CheckCalls.DeckChecks.Fine.{last_in}
use Rattle.report_definition.specs.FollowedDecks.FitSoFar.{groups_before}
use Rattle.report_definition.specs.FollowedDecks.Stands.{last_of}
use Rattle.fault_lines.specs.declared.faults.fault.Fault.{Fault}
use Rattle.fault_lines.specs.declared.faults.fault.Fault.TheVariants as fault
use Rattle.report_misfits.specs.OpenSums.{AreSumsOf, Sums}
use Rattle.report_definition.specs.Breaks.{no_cards}

-- these are the sums of all of some cards but the last, which is kept
abbrev pub AreBeforeLast : List Line → (cards : List (List ℕ)) → (last : Option (List ℕ)) → Sums → Type 0
AreBeforeLast lines [] last sums = (last ≡ None) × AreSumsOf lines no_cards sums × (sums.cards ≡ 0)
AreBeforeLast lines (card ∷ cards) last sums =
    (last ≡ Some (last_of card cards)) × AreSumsOf lines (groups_before lines card cards) sums × (sums.cards ≡ length cards)

-- the first card, where there is one more
abbrev pub first_card : (first : Option (List ℕ)) → (card : List ℕ) → Option (List ℕ)
first_card (Some first) card = Some first
first_card None card = Some card

-- while no line was bad the sums, the first card and the last one are those of all lines
abbrev pub IsAt : List Line → (so_far : Option (List (List ℕ))) → Standing → Type 0
IsAt lines None standing = standing.is_good ≡ false
IsAt lines (Some cards) standing =
    (standing.is_good ≡ true) × AreBeforeLast lines cards standing.last standing.sums × (standing.count ≡ length cards)
    × (standing.first ≡ slice_get cards 0)

-- A line more was taken, the one with a number, and this is told.
pub data Takes (chart : Chart) (number : ℕ) (line : List ℕ) (so_far : Option (List (List ℕ))) (told : List Fault) (new : Standing) : Type 0 where
  good : (card : List ℕ) → IsGoodLine chart line card → told ≡ totals_told chart so_far (Some card) → IsAt chart.lines (with_card card so_far) new
      → Takes chart number line so_far told new
  bad : (fault : Fault) → IsBadLine chart number line fault → told ≡ fault ∷ [] → IsAt chart.lines None new
      → Takes chart number line so_far told new

-- How a check stands between two lines: what is left of the deck, and what the writer holds.
pub record Stands (chart : Chart) (deck was left holds : Option (List ℕ)) (standing : Standing) (first : Option Fault) : Type 0 where
  pub lines : List (List ℕ)
  pub so_far : Option (List (List ℕ))
  pub told : List Fault
  pub lists : Lists chart lines so_far told
  pub at : IsAt chart.lines so_far standing
  pub counted : standing.count ≡ length lines
  pub few : length lines ≤ most_cards
  pub read : IfSome deck (λ text. (rest : List ℕ) × (left ≡ Some rest) × (lines_of text ≡ lines ++ lines_of rest))
  pub written : Appends was holds (lines_told told)
  pub is_first : first ≡ slice_get told 0

-- how many good cards there were, the first and the last one
pub record AreEdges (cards : List (List ℕ)) (standing : Standing) : Type 0 where
  pub count : standing.count ≡ length cards
  pub first : standing.first ≡ slice_get cards 0
  pub last : standing.last ≡ last_in cards

-- How it stands behind the last line.
pub record HasEnded (chart : Chart) (deck was holds : Option (List ℕ)) (standing : Standing) (first : Option Fault) : Type 0 where
  pub told : List Fault
  pub lines : List (List ℕ)
  pub so_far : Option (List (List ℕ))
  pub before : List Fault
  pub lists : Lists chart lines so_far before
  pub all : told ≡ before ++ totals_told chart so_far None
  pub few : length lines ≤ most_cards
  pub read : IfSome deck (λ text. lines_of text ≡ lines)
  pub edges : (cards : List (List ℕ)) → so_far ≡ Some cards → AreEdges cards standing
  pub listing : IfSome deck (λ text. IsListing chart text told)
  pub written : Appends was holds (lines_told told)
  pub is_first : first ≡ slice_get told 0

-- it stands behind a line more, or behind the last
abbrev pub GoesOn : Chart → (deck was left holds : Option (List ℕ)) → Standing → Option Fault → Bool → Type 0
GoesOn chart deck was left holds standing first true = Stands chart deck was left holds standing first
GoesOn chart deck was left holds standing first false = HasEnded chart deck was holds standing first

-- The front of some bytes was written, and this is told of the writer.
pub record BreaksOff (bytes : List ℕ) (old new : Option (List ℕ)) (told : Fault) : Type 0 where
  pub count : ℕ
  pub within : count ≤ length bytes
  pub taken : Appends old new (take count bytes)
  pub named : (told ≡ fault.Memory) ⊎ (told ≡ fault.Write)
