-- A run over a deck whose cards come one by one.
use Rattle.std.specs.Prelude.{ℕ, ◌≤◌, List, ◌∷◌, length, All}
use Rattle.card_code.specs.MostCards.{most_cards}
use Rattle.chart_rules.specs.ValidCard.{IsValidCard}
use Rattle.chart_lines.specs.ChartsWords.Chart.{Chart}
use Rattle.report_definition.specs.FollowedDecks.FitSoFar.{FitSoFar}
use Rattle.machine.specs.Feeds.{FedLines}
use Rattle.machine.specs.Machine.{MachineState, machine_at_start}
use Rattle.page_text.specs.declared.placed_lines.placed_line.PlacedLine.{PlacedLine}
use Rattle.hubs.specs.SetupsWords.Wiring.{Wiring}

-- Between two cards: a card and those after it are valid and not too many, no group that ended before the last of them has a misfit, and the
-- machine was fed them. The last one still waits in it, so the lines that it has placed are those of the others.
pub record Streams (chart : Chart) (wiring : Wiring) (card : List ℕ) (cards : List (List ℕ)) (machine : MachineState)
    (lines : List PlacedLine) : Type 0 where
  pub valid : All (IsValidCard chart) (card ∷ cards)
  pub few : length (card ∷ cards) ≤ most_cards
  pub fit : FitSoFar chart.lines card cards
  pub fed : FedLines wiring (machine_at_start wiring) (card ∷ cards) machine lines
