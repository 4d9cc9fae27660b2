-- A law of listings.
use Rattle.std.specs.Prelude.{ℕ, List, [], All}
use Rattle.card_code.specs.Deck.{Deck}
use Rattle.chart_rules.specs.ValidCard.{IsValidCard}
use Rattle.chart_lines.specs.ChartsWords.Chart.{Chart}
use Rattle.cli_decks.specs.CheckCalls.DeckChecks.Listings.{IsListing}
use Rattle.report_definition.specs.Totals.{Fits}

-- A deck of which nothing is told: all its cards are valid, and all totals fit.
pub record IsFree (chart : Chart) (text : List ℕ) : Type 0 where
  pub cards : List (List ℕ)
  pub deck : Deck text cards
  pub valid : All (IsValidCard chart) cards
  pub fit : Fits chart.lines cards

-- Where nothing is told of a deck, all its cards are valid, and all totals fit.
abbrev pub DecksWithoutFaultsFit : Type 0
DecksWithoutFaultsFit = (chart : Chart) (text : List ℕ) → IsListing chart text [] → IsFree chart text
