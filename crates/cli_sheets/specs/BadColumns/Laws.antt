-- Where a column is told of a card: in the field by which the card is refused.
use Rattle.std.specs.Prelude.{◌≡◌, ◌≤◌, List, ℕ, Some}
use Rattle.cli_sheets.specs.BadColumns.Columns.{bad_among}
use Rattle.cli_sheets.specs.declared.bad_columns.column.BadColumn.{BadColumn}
use Rattle.card_code.specs.Deck.{IsCardOf}
use Rattle.chart_lines.specs.ChartsWords.Chart.{Chart}
use Rattle.chart_lines.specs.declared.charts.statement.Field.{Field}
use Rattle.chart_line_rules.specs.FieldRules.Fields.{fields_of}
use Rattle.chart_rules.specs.Rules.{IsLawful}
use Rattle.chart_rules.specs.ValidCard.{IsFirstInvalid}
use Rattle.chart_rules.specs.declared.card.CardFault.{CardFault}

-- The column is one of a field, and told by the field's name.
pub record IsInField (field : Field) (bad : BadColumn) : Type 0 where
  pub named : bad.name ≡ field.name
  pub from : field.first ≤ bad.column
  pub to : bad.column ≤ field.last

-- If the card of a line isn't valid for a lawful chart, then a column is told by the first column of its first field that isn't valid, and it is one
-- of that field.
abbrev pub BadColumnsStandInFirstInvalidFields : Type 0
BadColumnsStandInFirstInvalidFields =
    (chart : Chart) (line card : List ℕ) (fault : CardFault) → IsLawful chart → IsCardOf line card
    → (refused : IsFirstInvalid (fields_of chart.lines) card fault)
    → (bad : BadColumn) × (bad_among refused.field.first line (fields_of chart.lines) ≡ Some bad) × IsInField refused.field bad
