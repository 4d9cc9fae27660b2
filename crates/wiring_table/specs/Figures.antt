-- Where the items of a chart stand on their wheels: the characters of a literal, and of an amount its digits, its point and its
-- mark. Position 1 of an amount is the units; the point stands left of the decimals, and the mark after the units.
use Rattle.std.specs.Prelude.{◌≡◌, ℕ, ◌+◌, ◌-◌, nat_lt, true, false, List, Option, Some, None, slice_get, if◌then◌else◌}
use Rattle.report_definition.specs.Below.card_code.CardCode.{has_row, rows_of}
use Rattle.report_definition.specs.Below.chart_line_rules.FieldRules.Fields.{field_named}
use Rattle.report_definition.specs.Below.chart_line_rules.PrintRules.Items.{mark_shown}
use Rattle.report_definition.specs.Below.chart_line_rules.declared.print_rules.items.Figure.{Figure}
use Rattle.chart_plans.specs.Below.chart_lines.ChartsWords.Field.{columns_of, decimals_of, is_amount}
use Rattle.chart_plans.specs.Below.chart_lines.ChartsWords.Headings.{heading_number}
use Rattle.chart_plans.specs.Below.chart_lines.ChartsWords.Levels.{level_number}
use Rattle.chart_plans.specs.Below.chart_lines.declared.charts.chart.Line.{Line}
use Rattle.chart_plans.specs.Below.chart_lines.declared.charts.statement.Field.{Field}
use Rattle.chart_plans.specs.Below.chart_lines.declared.charts.statement.FieldKind.{FieldKind}
use Rattle.chart_plans.specs.Below.chart_lines.declared.charts.statement.FieldKind.TheVariants as holds
use Rattle.chart_plans.specs.Below.chart_lines.declared.charts.statement.SignRule.{SignRule}
use Rattle.chart_plans.specs.Below.chart_lines.declared.charts.statement.Statement.{Statement}
use Rattle.chart_plans.specs.Below.chart_lines.declared.charts.statement.Statement.TheVariants as says
use Rattle.chart_plans.specs.Below.chart_lines.declared.charts.statement.TotalLine.{TotalLine}
pub use Rattle.report_definition.specs.Edits.{free_digits, mark_text}

-- The emitter of a printed line: that of its number for a heading line, 4 for the line of a card, 4 more than its level for a total
-- line.
abbrev pub heading_emitter : ℕ → ℕ
heading_emitter number = number

abbrev pub detail_emitter : ℕ
detail_emitter = 4

abbrev pub total_emitter : ℕ → ℕ
total_emitter level = 4 + level

-- A name stands for a field of characters.
pub record IsText (lines : List Line) (name : List ℕ) (field : Field) : Type 0 where
  pub named : field_named lines name ≡ Some field
  pub holds_text : is_amount field.kind ≡ false

-- A name stands for an amount.
pub record IsAmount (lines : List Line) (name : List ℕ) (field : Field) : Type 0 where
  pub named : field_named lines name ≡ Some field
  pub holds_amount : is_amount field.kind ≡ true

-- the sign rule of a field, if it has one
abbrev pub rule_of : FieldKind → Option SignRule
rule_of holds.Text = None
rule_of (holds.Amount decimals rule) = rule

-- A name stands for an amount with a sign rule.
pub record IsSigned (lines : List Line) (name : List ℕ) (rule : SignRule) : Type 0 where
  pub field : Field
  pub named : field_named lines name ≡ Some field
  pub ruled : rule_of field.kind ≡ Some rule

-- A name stands for an amount that is never below 0: it has no sign rule.
pub record IsUnsigned (lines : List Line) (name : List ℕ) : Type 0 where
  pub field : Field
  pub is_amount : IsAmount lines name field
  pub unruled : rule_of field.kind ≡ None

-- a line of the chart puts a literal on a line with an emitter, from a wheel on
pub data IsLiteral : Statement → (emitter wheel : ℕ) → List ℕ → Type 0 where
  on_heading : (line : _) (wheel : ℕ) (literal : List ℕ)
      → IsLiteral (says.Head line wheel literal) (heading_emitter (heading_number line)) wheel literal
  on_detail : (wheel : ℕ) (literal : List ℕ) → IsLiteral (says.DetailLiteral wheel literal) detail_emitter wheel literal
  on_total : (level : _) (wheel : ℕ) (literal : List ℕ)
      → IsLiteral (says.TotalLiteral level wheel literal) (total_emitter (level_number level)) wheel literal

-- A line of the chart puts an amount on a line with an emitter, from a wheel on. On the line of a card it has as many digits as its
-- field has columns.
pub data IsFigure (lines : List Line) : Statement → (emitter wheel : ℕ) → Figure → Type 0 where
  on_detail : (wheel : ℕ) (name : List ℕ) (shown : _) (field : Field) → IsAmount lines name field
      → IsFigure lines (says.DetailField wheel name shown) detail_emitter wheel
      (record { digits = columns_of field; decimals = decimals_of field.kind; mark = mark_shown shown })
  on_total : (total : TotalLine) (field : Field) → IsAmount lines total.name field
      → IsFigure lines (says.TotalAmount total) (total_emitter (level_number total.level)) total.wheel
      (record { digits = total.digits; decimals = decimals_of field.kind; mark = total.mark })

-- the wheel of a digit of an amount of so many digits and decimals, by its position
abbrev pub digit_wheel : (wheel digits decimals position : ℕ) → ℕ
digit_wheel wheel digits decimals position =
    if nat_lt decimals position then wheel + digits - position
    else wheel + digits + 1 - position

-- the wheel of the point
abbrev pub point_wheel : (wheel digits decimals : ℕ) → ℕ
point_wheel wheel digits decimals = wheel + digits - decimals

-- the wheel after the units, where the mark begins
abbrev pub mark_wheel : (wheel digits decimals : ℕ) → ℕ
mark_wheel wheel digits decimals = wheel + digits + (if nat_lt 0 decimals then 1 else 0)

-- a character has a row among those of its punches
pub record HasPunch (character row : ℕ) : Type 0 where
  pub set : ℕ
  pub coded : rows_of character ≡ Some set
  pub punched : has_row set row ≡ true

-- a text has a character at a place, from 0, with a row among its punches
pub record HasPunchAt (text : List ℕ) (place row : ℕ) : Type 0 where
  pub character : ℕ
  pub there : slice_get text place ≡ Some character
  pub punch : HasPunch character row
