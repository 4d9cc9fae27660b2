-- Decks that can be run: their cards are valid, not too many, and their totals fit.
use Rattle.std.specs.Prelude.{ℕ, ◌≤◌, List, replicate}
use Rattle.card_code.specs.MostCards.{most_cards}
use Rattle.chart_rules.specs.Rules.{IsLawful}
use Rattle.chart_text.specs.Below.chart_lines.ChartsWords.Chart.{Chart}
use Rattle.report_misfits.specs.Below.report_definition.Totals.{Fits}
use Rattle.report_runs.specs.PrintPromises.Promises.{IsDeck}

-- the deck can be run
pub record IsRunnable (chart : Chart) (cards : List (List ℕ)) : Type 0 where
  pub deck : IsDeck chart cards
  pub fits : Fits chart.lines cards

-- a card without a punch
abbrev pub blank_card : List ℕ
blank_card = replicate 80 0

-- For every chart that breaks no rule, a deck of blank cards can be run: a blank card is valid, and its amounts are 0.
abbrev pub BlankDecksAreRunnable : Type 0
BlankDecksAreRunnable = (chart : Chart) (count : ℕ) → IsLawful chart → count ≤ most_cards → IsRunnable chart (replicate count blank_card)
