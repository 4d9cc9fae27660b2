-- A helper of the code: fields whose columns are columns of the card.
use Rattle.std.specs.Prelude.{◌≡◌, ℕ, ◌≤◌, List, Some, slice_get}
use Rattle.chart_lines.specs.declared.charts.statement.Field.{Field}

-- the columns of a field are columns of the card, in order
pub record IsOnCard (field : Field) : Type 0 where
  pub from : 1 ≤ field.first
  pub order : field.first ≤ field.last
  pub to : field.last ≤ 80

-- all fields of a list are on the card
abbrev pub AreOnCard : List Field → Type 0
AreOnCard fields = (place : ℕ) (field : Field) → slice_get fields place ≡ Some field → IsOnCard field
