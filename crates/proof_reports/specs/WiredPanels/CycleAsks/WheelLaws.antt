-- Laws of the print wheels on a panel that is wired for a chart: at each row of a cycle that prints, each wheel receives what the items of
-- the cycle's line send to it.
use Rattle.std.specs.Prelude.{◌≡◌, ℕ, List}
use Rattle.proof_reports.specs.Below.card_code.CardCode.{has_row}
use Rattle.proof_reports.specs.Below.card_code.Rows.{row_number}
use Rattle.proof_reports.specs.Below.hubs.SetupsWords.Wiring.{Wiring}
use Rattle.proof_reports.specs.Below.hubs.declared.hub.Hub.TheVariants.{W}
use Rattle.proof_cycles.specs.Below.net.Cycles.{level_number, ordinal_number}
use Rattle.proof_cycles.specs.Below.net.declared.cycle.ProgramLevel.{ProgramLevel}
use Rattle.proof_cycles.specs.Below.net.declared.cycle.Ordinal.{Ordinal}
use Rattle.proof_cycles.specs.Below.net.declared.cycle.Point.TheVariants.{Row}
use Rattle.proof_reports.specs.PrintedLines.Shown.{Printed, set_on, sent_to_card, sent_to_heading, sent_to_total}
use Rattle.proof_reports.specs.WiredPanels.CycleRows.{CycleRow}
use Rattle.proof_reports.specs.WiredPanels.CycleAsks.PrintedRows.{IsHeadingRow, IsCardRow, IsTotalRow}

-- In a heading cycle each wheel receives what comes to the heading line.
abbrev pub WheelsReceiveHeadings : Type 0
WheelsReceiveHeadings =
    (wiring : Wiring) (heading : Ordinal) (at : CycleRow) (v : ℕ) → IsHeadingRow wiring heading at
    → at.pictures (Row at.row) (W v)
    ≡ has_row (set_on (sent_to_heading at.chart.lines (ordinal_number heading)) v) (row_number at.row)

-- In a card cycle each wheel receives what comes to the line of the card.
abbrev pub WheelsReceiveCards : Type 0
WheelsReceiveCards =
    (wiring : Wiring) (card : List ℕ) (opens : ℕ) (at : CycleRow) (v : ℕ) → IsCardRow wiring card opens at
    → at.pictures (Row at.row) (W v) ≡ has_row (set_on (sent_to_card at.chart.lines opens card) v) (row_number at.row)

-- In the third program cycle of a level each wheel receives what comes to the total line of the level.
abbrev pub WheelsReceiveTotals : Type 0
WheelsReceiveTotals =
    (wiring : Wiring) (level : ProgramLevel) (held : List ℕ → Printed) (card : List ℕ) (at : CycleRow) (v : ℕ)
    → IsTotalRow wiring level held card at
    → at.pictures (Row at.row) (W v)
    ≡ has_row (set_on (sent_to_total at.chart.lines (level_number level) held card) v) (row_number at.row)
