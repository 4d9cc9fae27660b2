-- A helper of the code: what is known of each line of a lawful chart and its plan.
use Rattle.std.specs.Prelude.{◌≡◌, ℕ, ◌≤◌, List, Option, Some, None, length, false}
use Rattle.chart_plans.specs.PlansWords.Plans.{Lists}
use Rattle.chart_rules.specs.Below.chart_line_rules.FieldRules.Fields.{field_named}
use Rattle.chart_rules.specs.HelperOnCard.{IsOnCard}
use Rattle.chart_lines.specs.ChartsWords.Field.{columns_of, is_amount, sign_column}
use Rattle.chart_lines.specs.declared.charts.chart.Line.{Line}
use Rattle.chart_lines.specs.declared.charts.statement.Field.{Field}
use Rattle.chart_lines.specs.declared.charts.statement.Statement.{Statement}
use Rattle.chart_lines.specs.declared.charts.statement.Statement.TheVariants as says
use Rattle.wiring_lines.specs.LineWires.HelperItems.{HasWheels, IsGoodDetail}
use Rattle.wiring_totals.specs.HelperTotals.{IsGoodTotal}
use Rattle.wiring_lines.specs.LineWires.HelperRanges.{HasChannel}

-- a name stands for a field, which has some property
abbrev pub IsNamed : Option Field → (Field → Type 0) → Type 0
IsNamed None holds = ⊥
IsNamed (Some field) holds = holds field

-- the ranges of a text on a total line
pub record IsGoodTotalText (wheel : ℕ) (field : Field) : Type 0 where
  pub card : IsOnCard field
  pub holds_text : is_amount field.kind ≡ false
  pub narrow : columns_of field ≤ 16
  pub wheels : HasWheels wheel (columns_of field)

-- a sign column, if there is one, is a column of the card
abbrev pub HasGoodSign : Option ℕ → Type 0
HasGoodSign None = Unit {0}
HasGoodSign (Some column) = (1 ≤ column) × (column ≤ 80)

-- what is known of a line of the chart, by its number and what it says
abbrev pub IsGood : List Line → Lists → ℕ → Statement → Type 0
IsGood lines plan number (says.Field field) = HasGoodSign (sign_column field.kind)
IsGood lines plan number (says.Control level name) = IsNamed (field_named lines name) IsOnCard
IsGood lines plan number (says.Head line wheel literal) = HasWheels wheel (length literal)
IsGood lines plan number (says.DetailLiteral wheel literal) = HasWheels wheel (length literal)
IsGood lines plan number (says.DetailField wheel name shown) = IsNamed (field_named lines name) (IsGoodDetail wheel shown)
IsGood lines plan number (says.TotalLiteral level wheel literal) = HasWheels wheel (length literal)
IsGood lines plan number (says.TotalText level wheel name) = IsNamed (field_named lines name) (IsGoodTotalText wheel)
IsGood lines plan number (says.TotalAmount total) =
    IsNamed (field_named lines total.name) (IsGoodTotal lines plan number total)
IsGood lines plan number (says.After line action) = HasChannel action
IsGood lines plan number other = Unit {0}
