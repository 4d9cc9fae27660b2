-- The rows of the cycles that print, on a panel that is wired for a chart.
use Rattle.std.specs.Prelude.{◌≡◌, ℕ, ◌<◌, ◌+◌, List, Contains, Some}
use Rattle.proof_reports.specs.Below.card_code.CardCode.{has_row}
use Rattle.proof_reports.specs.Below.card_code.Rows.{row_number}
use Rattle.proof_reports.specs.Below.chart_line_rules.FieldRules.Fields.{field_named}
use Rattle.proof_reports.specs.Below.chart_rules.ValidCard.{column_of}
use Rattle.proof_reports.specs.Below.chart_lines.ChartsWords.Chart.{NumbersRise}
use Rattle.proof_reports.specs.Below.chart_lines.ChartsWords.Field.{columns_of}
use Rattle.proof_reports.specs.Below.chart_lines.ChartsWords.Levels.{level_number as chart_number}
use Rattle.proof_reports.specs.Below.chart_lines.declared.charts.chart.Line.{Line}
use Rattle.proof_reports.specs.Below.chart_lines.declared.charts.level.Level.{Level}
use Rattle.proof_reports.specs.Below.chart_lines.declared.charts.statement.Field.{Field}
use Rattle.proof_reports.specs.Below.chart_lines.declared.charts.statement.Statement.TheVariants as says
use Rattle.proof_reports.specs.Below.chart_lines.declared.charts.statement.TotalLine.{TotalLine}
use Rattle.proof_reports.specs.Below.chart_plans.declared.plans.counter.TotalCounter.{TotalCounter}
use Rattle.proof_reports.specs.Below.hubs.SetupsWords.Wiring.{Wiring}
use Rattle.proof_cycles.specs.Below.net.Cycles.{level_number}
use Rattle.proof_cycles.specs.Below.net.declared.cycle.Cycle.TheVariants.{Card, Prog, Head}
use Rattle.proof_cycles.specs.Below.net.declared.cycle.ProgramLevel.{ProgramLevel}
use Rattle.proof_cycles.specs.Below.net.declared.cycle.Ordinal.TheVariants.{Third}
use Rattle.proof_cycles.specs.Below.net.declared.cycle.Ordinal.{Ordinal}
use Rattle.proof_reports.specs.PrintedLines.Shown.{Printed}
use Rattle.proof_reports.specs.Below.storage_units.Storage.{holds}
use Rattle.proof_cycles.specs.WholeCycles.Units.{group_at, storage_at}
use Rattle.wiring_table.specs.Parts.{counter_for, top_group, unit_for}
use Rattle.proof_reports.specs.WiredPanels.CycleRows.{CycleRow}
use Rattle.proof_reports.specs.WiredPanels.PanelCycles.{AreSetTo, IsCardRead, IsPanelCycle}
use Rattle.proof_reports.specs.WiredPanels.CycleAsks.CounterStates.{number_held}

-- A row of a heading cycle.
pub record IsHeadingRow (wiring : Wiring) (heading : Ordinal) (at : CycleRow) : Type 0 where
  pub on_panel : IsPanelCycle at.chart at.plan wiring at.old at.cycle at.pictures
  pub rises : NumbersRise at.chart.lines at.chart.end
  pub cycle : at.cycle ≡ Head heading

-- A row of the card cycle of a card that opens groups of the levels 1 to the given one: the card is valid and stands at second reading, the
-- indicate latches are set at the levels, and the pilots tell its signs.
pub record IsCardRow (wiring : Wiring) (card : List ℕ) (opens : ℕ) (at : CycleRow) : Type 0 where
  pub on_panel : IsPanelCycle at.chart at.plan wiring at.old at.cycle at.pictures
  pub rises : NumbersRise at.chart.lines at.chart.end
  pub cycle : at.cycle ≡ Card
  pub read : IsCardRead at.chart at.plan at.old card
  pub latches : AreSetTo at.old.indicate opens

-- A counter stands at the figure of a total, with the latch of its top group as the total has it.
pub record CounterHoldsTotal (at : CycleRow) (counter : TotalCounter) (printed : Printed) : Type 0 where
  pub figure : number_held at.old counter ≡ printed.figure
  pub latch : (group_at at.old (top_group counter)).latch ≡ printed.latch

-- A row of the third program cycle of a level: the counters of its totals stand at the totals by name, and the storage units of its
-- texts hold the columns of a card.
pub record IsTotalRow (wiring : Wiring) (level : ProgramLevel) (held : List ℕ → Printed) (card : List ℕ) (at : CycleRow) : Type 0 where
  pub on_panel : IsPanelCycle at.chart at.plan wiring at.old at.cycle at.pictures
  pub rises : NumbersRise at.chart.lines at.chart.end
  pub cycle : at.cycle ≡ Prog level Third
  pub totals :
      (line : Line) (total : TotalLine) (counter : TotalCounter)
      → Contains at.chart.lines line → line.statement ≡ says.TotalAmount total
      → chart_number total.level ≡ level_number level → counter_for at.chart.lines at.plan line.number ≡ Some counter
      → CounterHoldsTotal at counter (held total.name)
  pub texts :
      (line : Line) (its_level : Level) (wheel : ℕ) (name : List ℕ) (field : Field) (unit j : ℕ)
      → Contains at.chart.lines line → line.statement ≡ says.TotalText its_level wheel name
      → chart_number its_level ≡ level_number level → unit_for at.plan line.number ≡ Some unit
      → field_named at.chart.lines name ≡ Some field → j < columns_of field
      → holds (storage_at at.old unit) at.row (j + 1) ≡ has_row (column_of card (field.first + j)) (row_number at.row)
