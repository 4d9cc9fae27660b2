-- The law of decks whose totals don't all fit.
use Rattle.std.specs.Prelude.{◌≡◌, ℕ, ◌≤◌, List, ◌∷◌, ◌++◌, All, length}
use Rattle.report_definition.specs.Below.card_code.MostCards.{most_cards}
use Rattle.proof_reports.specs.Below.chart_plans.PlansWords.Plans.{Lists}
use Rattle.report_definition.specs.Below.page_text.declared.placed_lines.placed_line.PlacedLine.{PlacedLine}
use Rattle.report_definition.specs.Below.chart_rules.ValidCard.{IsValidCard}
use Rattle.report_definition.specs.Below.chart_lines.ChartsWords.Chart.{Chart, NumbersRise}
use Rattle.report_definition.specs.Below.chart_lines.ChartsWords.Literals.{HaveLiteralTexts}
use Rattle.report_definition.specs.FollowedDecks.FitBefore.{FitBefore}
use Rattle.report_definition.specs.FollowedDecks.Stands.{report_before}
use Rattle.proof_reports.specs.Below.hubs.SetupsWords.Wiring.{Wiring}
use Rattle.proof_reports.specs.WiredPanels.Panel.{IsPanel}
use Rattle.proof_reports.specs.Below.machine.Feeds.{FedLines}
use Rattle.proof_reports.specs.Below.machine.Machine.{MachineState, machine_at_start}

-- Where the totals of a deck don't all fit, the lines that the machine places before those of the first card at which one doesn't are the
-- lines of the report that stand before that card's. In full: for every chart that breaks no rule, whose line numbers rise and whose
-- literals can be printed, as in every chart that is read, every setup that is wired for it by a plan of it, and every deck of some cards
-- and any later ones, where the former are at least one and at most 999,999 and valid, and the totals that end before the last of them
-- fit: what the feeds of these cards place are the lines of the deck's report before those of the last one, which still waits.
abbrev pub MachinesBeginReports : Type 0
MachinesBeginReports =
    (chart : Chart) (plan : Lists) (wiring : Wiring) (card : List ℕ) (cards later : List (List ℕ)) (left : MachineState)
    (lines : List PlacedLine)
    → IsPanel chart plan wiring → NumbersRise chart.lines chart.end → HaveLiteralTexts chart.lines
    → All (IsValidCard chart) (card ∷ cards) → length (card ∷ cards) ≤ most_cards
    → FitBefore chart.lines (card ∷ (cards ++ later)) (length cards)
    → FedLines wiring (machine_at_start wiring) (card ∷ cards) left lines
    → lines ≡ report_before chart (card ∷ (cards ++ later)) (length cards)
