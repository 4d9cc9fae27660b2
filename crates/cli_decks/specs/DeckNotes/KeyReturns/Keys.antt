-- The keys of cards: the punches in the columns of control fields.
use Rattle.std.specs.Prelude.{◌≡◌, ℕ, List, map}
use Rattle.std.specs.List.{flat_map}
use Rattle.card_code.specs.Columns.{set_of_column, column_of as column_of_set}
use Rattle.chart_lines.specs.declared.charts.statement.Field.{Field}
use Rattle.chart_rules.specs.ValidCard.{column_of}
use Rattle.report_definition.specs.Amounts.{columns_in}

-- the punches in the columns of a field
abbrev pub punches_on : List ℕ → Field → List ℕ
punches_on card field = map (λ column. column_of card column) (columns_in field)

-- those in the columns of some fields
abbrev pub key_on : List Field → List ℕ → List ℕ
key_on fields card = flat_map (punches_on card) fields

-- These sets are those of these columns, and the columns can be made of them again.
pub record AreSetsOf (columns sets : List ℕ) : Type 0 where
  pub to_columns : map column_of_set sets ≡ columns
  pub to_sets : map set_of_column columns ≡ sets
