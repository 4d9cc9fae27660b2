-- What a total line rests on: what the totals and the storage units hold when a group ends.
use Rattle.std.specs.Prelude.{◌≡◌, ℕ, ℤ, ◌<◌, ◌^◌, true, false, List, Contains, Option, Some, is_some, unsigned_abs}
use Rattle.std.specs.Int.{is_negative}
use Rattle.wiring_table.specs.Below.chart_lines.ChartsWords.Levels.{level_number}
use Rattle.wiring_table.specs.Below.chart_lines.declared.charts.chart.Line.{Line}
use Rattle.wiring_table.specs.Below.chart_lines.declared.charts.level.Level.{Level}
use Rattle.wiring_table.specs.Below.chart_lines.declared.charts.statement.Field.{Field}
use Rattle.wiring_table.specs.Below.chart_lines.declared.charts.statement.Mark.{Mark}
use Rattle.wiring_table.specs.Below.chart_lines.declared.charts.statement.Statement.TheVariants as says
use Rattle.wiring_table.specs.Below.chart_lines.declared.charts.statement.TotalLine.{TotalLine}
use Rattle.wiring_table.specs.Below.chart_line_rules.FieldRules.Fields.{field_named}
use Rattle.wiring_table.specs.Below.chart_rules.ValidCard.{EachColumn, IsText, column_of}
use Rattle.report_definition.specs.BodyLines.{a_card_of}
use Rattle.report_definition.specs.Totals.{total_of}
use Rattle.proof_reports.specs.PrintedLines.Shown.{Printed}

-- What is held of a total prints it in so many digits: the total fits, the figure is its size, and where it has a mark the balance
-- latch is set for a total below 0 and not set for one above 0.
pub record HoldsTotal (digits : ℕ) (mark : Option Mark) (total : ℤ) (held : Printed) : Type 0 where
  pub fits : unsigned_abs total < 10 ^ digits
  pub figure : held.figure ≡ unsigned_abs total
  pub below : is_some mark ≡ true → is_negative total ≡ true → held.latch ≡ true
  pub above : is_some mark ≡ true → is_negative total ≡ false → 0 < unsigned_abs total → held.latch ≡ false

-- What is held of a text field are the columns of another card, on which it is a text.
pub record HoldsText (field : Field) (held original : List ℕ) : Type 0 where
  pub same : EachColumn field.first field.last (λ column. column_of held column ≡ column_of original column)
  pub is_text : IsText field.first field.last original

-- Each amount and each text on the total line of a level is held for a group.
pub record HoldsLine (lines : List Line) (level : ℕ) (group : List (List ℕ)) (held : List ℕ → Printed) (card : List ℕ) : Type 0 where
  pub amounts :
      (line : Line) (total : TotalLine) (field : Field)
      → Contains lines line → line.statement ≡ says.TotalAmount total → level_number total.level ≡ level
      → field_named lines total.name ≡ Some field → HoldsTotal total.digits total.mark (total_of field group) (held total.name)
  pub texts :
      (line : Line) (its_level : Level) (wheel : ℕ) (name : List ℕ) (field : Field)
      → Contains lines line → line.statement ≡ says.TotalText its_level wheel name → level_number its_level ≡ level
      → field_named lines name ≡ Some field → HoldsText field card (a_card_of group)
