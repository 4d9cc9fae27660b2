-- Decks whose totals don't all fit: the feeds up to a card are those of a machine that goes by cards, so their lines are the report's.
use Rattle.std.proofs.Common.{ℕ, List, [], ◌∷◌}
use Rattle.report_definition.specs.Below.page_text.declared.placed_lines.placed_line.PlacedLine.{PlacedLine}
use Rattle.report_definition.specs.Below.chart_lines.ChartsWords.Chart.{Chart}
use Rattle.report_definition.proofs.FollowedDecks.Running.{feeds_begin_reports}
use Rattle.report_definition.specs.FollowedDecks.Runner.{HasFedCards}
use Rattle.report_definition.specs.FollowedDecks.Stands.{Stand}
use Rattle.proof_reports.specs.Below.hubs.SetupsWords.Wiring.{Wiring}
use Rattle.proof_reports.specs.Below.machine.Feeds.{FedLines}
use Rattle.proof_reports.specs.Below.machine.Machine.{MachineState, machine_at_start}
use Rattle.proof_reports.specs.PrintedReports.Content.{Waits}
use Rattle.proof_reports.proofs.PrintedReports.Instance.{machine_goes}
use Rattle.proof_reports.proofs.PrintedReports.Runs.{goes_by_cards, runner}
use Rattle.proof_reports.specs.PrintedReports.Begun.{MachinesBeginReports}
use Rattle.report_definition.specs.Below.chart_rules.ValidCard.{IsValidCard}

-- feeds of cards are those of a machine that goes by cards
cards-fed :
    (chart : Chart) (wiring : Wiring) (Reads : List ℕ → Type 0) (Waits : Stand → List ℕ → MachineState → Type 0)
    (old : MachineState) (cards : List (List ℕ)) (left : MachineState) (lines : List PlacedLine)
    → FedLines wiring old cards left lines → HasFedCards (runner chart wiring Reads Waits) old cards left lines
unfolding FedLines
cards-fed chart wiring Reads Waits old [] left lines fed = fed
cards-fed chart wiring Reads Waits old (card ∷ cards) left lines (mid, first, others, feed, more, is) =
    (mid, first, others, feed, cards-fed chart wiring Reads Waits mid cards left others more, is)

pub machines_begin_reports : MachinesBeginReports
machines_begin_reports chart plan wiring card cards later left lines panel rise literals reads long late fed =
    feeds_begin_reports (runner chart wiring (IsValidCard chart) (Waits chart plan wiring))
    (goes_by_cards chart wiring panel.lawful (machine_goes chart plan wiring panel rise literals)) card cards later left lines reads long late
    (cards-fed chart wiring (IsValidCard chart) (Waits chart plan wiring) (machine_at_start wiring) (card ∷ cards) left lines fed)
