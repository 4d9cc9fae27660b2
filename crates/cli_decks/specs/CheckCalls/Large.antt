-- What is told of the totals of a deck that their lines have no room for.
use Rattle.std.specs.Prelude.{◌≡◌, ◌⊎◌, ℕ, All, List, [], Option}
use Rattle.std.specs.Io.KnownBytes.{Appends}
use Rattle.card_code.specs.Deck.{Deck}
use Rattle.chart_rules.specs.ValidCard.{IsValidCard}
use Rattle.chart_lines.specs.ChartsWords.Chart.{Chart}
use Rattle.cli_decks.specs.DeckNotes.MisfitTotals.Large.{large_told}

-- A deck is none of cards that are all valid for a chart.
abbrev pub HasBadCards : Chart → (deck : List ℕ) → Type 0
HasBadCards chart deck = (cards : List (List ℕ)) → Deck deck cards → ¬ All (IsValidCard chart) cards

-- Nothing is told of such a deck.
pub record TellsNone (chart : Chart) (deck text : List ℕ) : Type 0 where
  pub bad : HasBadCards chart deck
  pub spelled : text ≡ []

-- This is told of all totals of the groups of another one that are too large.
pub record TellsTotals (chart : Chart) (deck text : List ℕ) : Type 0 where
  pub cards : List (List ℕ)
  pub punched : Deck deck cards
  pub valid : All (IsValidCard chart) cards
  pub spelled : text ≡ large_told chart.lines cards

abbrev pub TellsLarge : Chart → (deck text : List ℕ) → Type 0
TellsLarge chart deck text = TellsNone chart deck text ⊎ TellsTotals chart deck text

-- This was written of the deck.
pub record WritesLarge (chart : Chart) (deck : List ℕ) (old new : Option (List ℕ)) : Type 0 where
  pub large : List ℕ
  pub tells : TellsLarge chart deck large
  pub written : Appends old new large
