-- A cycle of a panel that is wired for a chart, by the pictures of its points: what arrives at its entries, and what its units hold.
use Rattle.std.specs.Prelude.{◌≡◌, ℕ, ◌≤◌, ◌+◌, ◌<◌, nat_le, Bool, true, false, List, Contains, Option, Some, None, ◌==◌}
use Rattle.wiring_table.specs.Below.chart_plans.PlansWords.Plans.{Lists}
use Rattle.proof_cycles.specs.Below.card_code.CardCode.{has_row}
use Rattle.proof_cycles.specs.Below.card_code.Rows.{row_number}
use Rattle.proof_cycles.specs.Below.card_code.declared.row.Row.{Row as CardRow}
use Rattle.wiring_table.specs.Below.chart_line_rules.FieldRules.Fields.{field_named}
use Rattle.wiring_table.specs.Below.chart_rules.ValidCard.{column_of, IsValidCard}
use Rattle.wiring_table.specs.Below.chart_lines.ChartsWords.Chart.{Chart}
use Rattle.wiring_table.specs.Below.chart_lines.ChartsWords.Field.{column_of_rule, columns_of}
use Rattle.wiring_table.specs.Below.chart_lines.ChartsWords.Levels.{control_number, level_number}
use Rattle.wiring_table.specs.Below.chart_lines.declared.charts.chart.Line.{Line}
use Rattle.wiring_table.specs.Below.chart_lines.declared.charts.level.ControlLevel.{ControlLevel}
use Rattle.wiring_table.specs.Below.chart_lines.declared.charts.level.Level.{Level}
use Rattle.wiring_table.specs.Below.chart_lines.declared.charts.statement.Field.{Field}
use Rattle.wiring_table.specs.Below.chart_lines.declared.charts.statement.SignRule.{SignRule}
use Rattle.wiring_table.specs.Below.chart_lines.declared.charts.statement.Statement.TheVariants as says
use Rattle.wiring_table.specs.Below.hubs.SetupsWords.Wiring.{Wiring}
use Rattle.proof_cycles.specs.Below.hubs.declared.hub.Hub.{Hub}
use Rattle.proof_cycles.specs.Below.hubs.declared.hub.Hub.TheVariants.{PX}
use Rattle.proof_cycles.specs.Below.machine.Machine.{MachineState, closes}
use Rattle.proof_cycles.specs.Below.net.Impulsed.{IsPicture}
use Rattle.proof_cycles.specs.Below.net.declared.cycle.Cycle.{Cycle}
use Rattle.proof_cycles.specs.Below.net.declared.cycle.Point.{Point}
use Rattle.proof_cycles.specs.Below.net.declared.cycle.Point.TheVariants.{C, Row}
use Rattle.proof_cycles.specs.Below.selectors.Indicate.{Latches, is_latch_set}
use Rattle.proof_cycles.specs.Below.selectors.Pilots.{PilotStates, is_transferred}
use Rattle.proof_cycles.specs.Below.storage_units.Storage.{StorageState, holds}
use Rattle.proof_cycles.specs.WholeCycles.Between.{IsBetween}
use Rattle.proof_cycles.specs.WholeCycles.WholeCycles.{control_emits, row_emits, closing_emits}
use Rattle.wiring_table.specs.Figures.{IsText, rule_of}
use Rattle.wiring_table.specs.Parts.{pilot_for, unit_for}
use Rattle.wiring_table.specs.Wires.{ChartWire}
use Rattle.proof_reports.specs.WiredPanels.Panel.{IsPanel}
use Rattle.proof_reports.specs.WiredPanels.Sources.{EmitsAtControl, EmitsAtRow}

-- A cycle of a panel that is wired for a chart, from a machine between cycles: the pictures of its control point and of its rows are those
-- of the exits that emit there.
pub record IsPanelCycle (chart : Chart) (plan : Lists) (wiring : Wiring) (old : MachineState) (cycle : Cycle)
    (pictures : Point → Hub → Bool) : Type 0 where
  pub panel : IsPanel chart plan wiring
  pub between : IsBetween old
  pub control : IsPicture wiring (control_emits cycle) (closes old cycle C) (pictures C)
  pub rows :
      (row : CardRow) → IsPicture wiring (row_emits old pictures cycle row) (closes old cycle (Row row)) (pictures (Row row))

-- A wire of the chart leads to an entry from the exit that emits at the control point.
pub record ArrivesAtControl (lines : List Line) (plan : Lists) (cycle : Cycle) (entry : Hub) : Type 0 where
  pub exit : Hub
  pub emits : EmitsAtControl cycle exit
  pub wire : ChartWire lines plan exit entry

-- A wire of the chart leads to an entry from an exit that emits at a row.
pub record ArrivesAtRow (lines : List Line) (plan : Lists) (old : MachineState) (pictures : Point → Hub → Bool) (cycle : Cycle)
    (row : CardRow) (entry : Hub) : Type 0 where
  pub exit : Hub
  pub emits : EmitsAtRow old pictures cycle row exit
  pub wire : ChartWire lines plan exit entry

-- A wire of the chart leads to an entry from an exit that emits at the closing point.
pub record ArrivesAtClosing (lines : List Line) (plan : Lists) (pictures : Point → Hub → Bool) (cycle : Cycle) (entry : Hub) : Type 0 where
  pub exit : Hub
  pub emits : closing_emits pictures cycle exit ≡ true
  pub wire : ChartWire lines plan exit entry

-- The latches of group indication of the levels 1 to a given one are set, and those above are reset.
abbrev pub AreSetTo : Latches → ℕ → Type 0
AreSetTo latches top = (level : ℕ) → 1 ≤ level → level ≤ 3 → is_latch_set latches level ≡ nat_le level top

-- whether a card, if there is one, has row 11 in a column
abbrev pub has_sign : Option (List ℕ) → ℕ → Bool
has_sign None column = false
has_sign (Some card) column = has_row (column_of card column) 11

-- The pilot of each amount with a sign rule is transferred exactly where a card has row 11 in the amount's sign column.
abbrev pub PilotsTellSigns : List Line → Lists → Option (List ℕ) → PilotStates → Type 0
PilotsTellSigns lines plan card pilots =
    (name : List ℕ) (field : Field) (rule : SignRule) (pilot : ℕ) → field_named lines name ≡ Some field
    → rule_of field.kind ≡ Some rule → pilot_for plan name ≡ Some pilot
    → is_transferred pilots pilot ≡ has_sign card (column_of_rule rule)

-- The storage unit of each text on a total line holds the columns of the text's field on a card.
abbrev pub UnitsHold : List Line → Lists → List ℕ → List StorageState → Type 0
UnitsHold lines plan card units =
    (line : Line) (level : Level) (wheel : ℕ) (name : List ℕ) (field : Field) (unit : ℕ) (storage : StorageState) (row : CardRow) (j : ℕ)
    → Contains lines line → line.statement ≡ says.TotalText level wheel name → IsText lines name field
    → unit_for plan line.number ≡ Some unit → Contains units storage → storage.place ≡ unit → j < columns_of field
    → holds storage row (j + 1) ≡ has_row (column_of card (field.first + j)) (row_number row)

-- A storage unit serves a text on the total line of the level whose third program cycle it is.
pub record IsTextPrinted (lines : List Line) (plan : Lists) (cycle : Cycle) (unit : ℕ) : Type 0 where
  pub line : Line
  pub listed : Contains lines line
  pub level : Level
  pub wheel : ℕ
  pub name : List ℕ
  pub is_text : line.statement ≡ says.TotalText level wheel name
  pub served : unit_for plan line.number ≡ Some unit
  pub printed : EmitsAtControl cycle (PX (level_number level) 3)

-- A column of a control field of a level at which two cards differ.
pub record Differs (lines : List Line) (level : ℕ) (card next : List ℕ) : Type 0 where
  pub line : Line
  pub listed : Contains lines line
  pub its_level : ControlLevel
  pub name : List ℕ
  pub field : Field
  pub place : ℕ
  pub controls : line.statement ≡ says.Control its_level name
  pub same_level : control_number its_level ≡ level
  pub named : field_named lines name ≡ Some field
  pub within : place < columns_of field
  pub differs : (column_of card (field.first + place) == column_of next (field.first + place)) ≡ false

-- A valid card stands at second reading, and each pilot is transferred exactly where the card has row 11 in the sign column of its
-- amount.
pub record IsCardRead (chart : Chart) (plan : Lists) (old : MachineState) (card : List ℕ) : Type 0 where
  pub second : old.stations.second ≡ Some card
  pub valid : IsValidCard chart card
  pub pilots :
      (name : List ℕ) (field : Field) (rule : SignRule) (pilot : ℕ) → field_named chart.lines name ≡ Some field
      → rule_of field.kind ≡ Some rule → pilot_for plan name ≡ Some pilot
      → is_transferred old.pilots pilot ≡ has_row (column_of card (column_of_rule rule)) 11
