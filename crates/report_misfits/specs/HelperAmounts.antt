-- Helper words of the code: amounts whose columns and digits a lawful chart keeps in bounds.
use Rattle.std.specs.Prelude.{ℕ, ◌≤◌, Option, Some, None}
use Rattle.chart_lines.specs.ChartsWords.Field.{columns_of, sign_column, column_of_rule}
use Rattle.chart_lines.specs.declared.charts.statement.Field.{Field}
use Rattle.chart_lines.specs.declared.charts.statement.SignRule.{SignRule}
use Rattle.chart_rules.specs.HelperOnCard.{IsOnCard}

-- a sign column, if there is one, is a column of the card
abbrev pub IsColumn : Option ℕ → Type 0
IsColumn (Some column) = (1 ≤ column) × (column ≤ 80)
IsColumn None = Unit {0}

-- the column of a sign rule is one of the card
abbrev pub IsGoodSign : SignRule → Type 0
IsGoodSign rule = (1 ≤ column_of_rule rule) × (column_of_rule rule ≤ 80)

-- the columns of an amount are on the card, at most 8 of them, and so is its sign column
pub record IsGoodAmount (field : Field) : Type 0 where
  pub on_card : IsOnCard field
  pub few : columns_of field ≤ 8
  pub sign : IsColumn (sign_column field.kind)
