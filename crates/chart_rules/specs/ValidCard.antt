-- The cards that are valid for a chart.
use Rattle.std.specs.Prelude.{◌≡◌, ℕ, ◌+◌, ◌-◌, ◌<◌, ◌≤◌, ◌==◌, ◌⊎◌, Bool, true, false, List, Option, Some, None, not, ◌&&◌, ◌||◌, length, max, [], ◌∷◌, count_by, slice_get, slice_index}
use Rattle.card_code.specs.CardCode.{has_row, deck_character}
use Rattle.card_code.specs.Rows.{row_number}
use Rattle.card_code.specs.declared.row.Row.{Row}
use Rattle.card_code.specs.declared.row.Row.TheVariants.{Zero, One, Two, Three, Four, Five, Six, Seven, Eight, Nine}
use Rattle.chart_lines.specs.ChartsWords.Chart.{Chart}
use Rattle.chart_lines.specs.declared.charts.statement.Field.{Field}
use Rattle.chart_lines.specs.declared.charts.statement.FieldKind.{FieldKind}
use Rattle.chart_lines.specs.declared.charts.statement.FieldKind.TheVariants as holds
use Rattle.chart_rules.specs.declared.card.CardFault.{CardFault}
use Rattle.chart_rules.specs.declared.card.CardFault.TheVariants as fault
use Rattle.chart_line_rules.specs.FieldRules.Fields.{fields_of}
use Rattle.chart_lines.specs.ChartsWords.Field.{sign_column, decimals_of}

-- the rows punched in a column of a card
abbrev pub column_of : List ℕ → ℕ → ℕ
column_of card column = slice_index card (column - 1)

-- a fact holds for each of some columns, first and last included
abbrev pub EachColumn : ℕ → ℕ → (ℕ → Type 0) → Type 0
EachColumn first last P = (column : ℕ) → first ≤ column → column ≤ last → P column

-- whether a deck character is a print character or a blank: all are but `!`
abbrev pub is_printed : Option ℕ → Bool
is_printed (Some character) = not (character == 33)
is_printed None = false

-- some columns are a text: each has a print character or is blank
abbrev pub IsText : ℕ → ℕ → List ℕ → Type 0
IsText first last card = EachColumn first last (λ column. is_printed (deck_character (column_of card column)) ≡ true)

-- the rows of the digits
unfoldable pub digit_rows : List Row
digit_rows = Zero ∷ One ∷ Two ∷ Three ∷ Four ∷ Five ∷ Six ∷ Seven ∷ Eight ∷ Nine ∷ []

-- how many of some rows are punched in a column
abbrev pub punched_among : List Row → ℕ → ℕ
punched_among rows column = count_by (λ row. has_row column (row_number row)) rows

-- how many of the rows 0 to 9 are punched in a column: none is a blank digit part, one is a digit
unfoldable pub digit_count : ℕ → ℕ
digit_count column = punched_among digit_rows column

-- the digit parts of the columns from one on and before another are blank
abbrev pub AreBlank : ℕ → ℕ → List ℕ → Type 0
AreBlank first after card = (column : ℕ) → first ≤ column → column < after → digit_count (column_of card column) ≡ 0

-- the digit parts of some columns are single digits
abbrev pub AreSingle : ℕ → ℕ → List ℕ → Type 0
AreSingle first last card = EachColumn first last (λ column. digit_count (column_of card column) ≡ 1)

-- The digit parts of some columns are blanks alone, or blanks and then single digits, at least so many of them.
pub record AreDigits (first last least : ℕ) (card : List ℕ) : Type 0 where
  pub start : ℕ
  pub from : first ≤ start
  pub to : start ≤ last + 1
  pub blanks : AreBlank first start card
  pub digits : AreSingle start last card
  pub enough : (start ≡ last + 1) ⊎ (start + least ≤ last + 1)

-- whether a column is the sign column
abbrev pub is_sign : Option ℕ → ℕ → Bool
is_sign (Some sign) column = sign == column
is_sign None column = false

-- whether a column of an amount has a lawful zone: no row 12, and row 11 in its sign column alone
abbrev pub has_good_zone : Option ℕ → ℕ → ℕ → Bool
has_good_zone sign column rows = not (has_row rows 12) && (not (has_row rows 11) || is_sign sign column)

-- the columns of an amount have lawful zones
abbrev pub HaveGoodZones : ℕ → ℕ → Option ℕ → List ℕ → Type 0
HaveGoodZones first last sign card = EachColumn first last (λ column. has_good_zone sign column (column_of card column) ≡ true)

-- An amount is valid by its digit parts, with at least one digit and at least its decimals, and by its zones.
pub record IsValidAmount (field : Field) (card : List ℕ) : Type 0 where
  pub digits : AreDigits field.first field.last (max (decimals_of field.kind) 1) card
  pub zones : HaveGoodZones field.first field.last (sign_column field.kind) card

-- a field is valid on a card by what it holds: a text in each column, or an amount
abbrev pub IsValidKind : FieldKind → Field → List ℕ → Type 0
IsValidKind holds.Text field card = IsText field.first field.last card
IsValidKind (holds.Amount decimals rule) field card = IsValidAmount field card

abbrev pub IsValidField : Field → List ℕ → Type 0
IsValidField field card = IsValidKind field.kind field card

-- the first fields of a list are valid on a card
abbrev pub AreValid : List Field → ℕ → List ℕ → Type 0
AreValid fields count card = (place : ℕ) → place < count → (field : Field) → slice_get fields place ≡ Some field → IsValidField field card

-- A card is valid for a chart where each field of the chart is valid on it.
unfoldable pub IsValidCard : Chart → List ℕ → Type 0
IsValidCard chart card = AreValid (fields_of chart.lines) (length (fields_of chart.lines)) card

-- the number of a fault in the catalogue of faults
abbrev pub fault_number : CardFault → ℕ
fault_number (fault.NotText column) = 41
fault_number (fault.NotAmount column) = 42

-- what is told of a field that is not valid: its first column
abbrev pub fault_of : FieldKind → ℕ → CardFault
fault_of holds.Text first = fault.NotText first
fault_of (holds.Amount decimals rule) first = fault.NotAmount first

-- A fault tells of the first field in the order of the chart that is not valid.
pub record IsFirstInvalid (fields : List Field) (card : List ℕ) (told : CardFault) : Type 0 where
  pub place : ℕ
  pub field : Field
  pub is_there : slice_get fields place ≡ Some field
  pub valid_before : AreValid fields place card
  pub invalid : ¬ IsValidField field card
  pub tells : told ≡ fault_of field.kind field.first
