-- What a chart's fields read on a card: under the card the marks of a field's columns, then its name, its columns, the characters in them,
-- and of an amount its value.
use Rattle.std.specs.Prelude.{ℕ, ◌-◌, ◌/◌, ◌^◌, ◌==◌, zero, suc, Bool, true, List, [], ◌∷◌, ◌++◌, codes, decimal, map, replicate, unsigned_abs, if◌then◌else◌}
use Rattle.std.specs.Prelude.{ℤ, Some}
use Rattle.std.specs.Int.{is_negative}
use Rattle.std.specs.List.{flat_map}
use Rattle.std.specs.Option.{unwrap_or}
use Rattle.card_code.specs.CardCode.{deck_character}
use Rattle.chart_lines.specs.ChartsWords.Field.{columns_of, column_of_rule}
use Rattle.chart_lines.specs.ChartsWords.Name.{name_text}
use Rattle.chart_lines.specs.declared.charts.statement.Field.{Field}
use Rattle.chart_lines.specs.declared.charts.statement.FieldKind.{FieldKind}
use Rattle.chart_lines.specs.declared.charts.statement.FieldKind.TheVariants as holds
use Rattle.chart_rules.specs.ValidCard.{column_of}
use Rattle.report_definition.specs.Amounts.{columns_in, value_of}
use Rattle.report_definition.specs.Edits.{figure, last_digits}
use Rattle.cli_sheets.specs.declared.wording.TheConstants as wording

-- the marks under the columns of a field
abbrev pub marks : Field → List ℕ
marks field = replicate (field.first - 1) 32 ++ replicate (columns_of field) 94

-- its columns
abbrev pub columns_told : Field → List ℕ
columns_told field =
    if columns_of field == 1
    then wording.IN_COLUMN.now ++ decimal field.first
    else wording.IN_COLUMNS.now ++ decimal field.first ++ codes " to " ++ decimal field.last

-- its sign column
abbrev pub sign_told : FieldKind → List ℕ
sign_told (holds.Amount decimals (Some rule)) = wording.SIGN_IN_COLUMN.now ++ decimal (column_of_rule rule)
sign_told other = []

-- the decimals of a number, with the point before them
abbrev pub decimals_told : (number decimals : ℕ) → List ℕ
decimals_told number zero = []
decimals_told number (suc decimals) = 46 ∷ map figure (last_digits (suc decimals) number)

-- a whole number with its last digits as decimals
abbrev pub number_told : (number decimals : ℕ) → List ℕ
number_told number decimals = decimal (number / 10 ^ decimals) ++ decimals_told number decimals

-- the same with a sign
abbrev pub value_told : ℤ → (decimals : ℕ) → List ℕ
value_told value decimals = (if is_negative value then codes "-" else []) ++ number_told (unsigned_abs value) decimals

-- the value of an amount, where values are told
abbrev pub value_part : (tells_values : Bool) → (card : List ℕ) → Field → FieldKind → List ℕ
value_part true card field (holds.Amount decimals rule) = codes " = " ++ value_told (value_of field card) decimals
value_part tells_values card field other = []

-- the marks of a field, and under them its name and where it is
abbrev pub place_told : Field → List ℕ
place_told field = marks field ++ codes "\n" ++ name_text field.name ++ columns_told field ++ sign_told field.kind

-- a set of rows as it stands in a deck: a blank stands for one that no character has
abbrev pub character_of : ℕ → ℕ
character_of set = unwrap_or (deck_character set) 32

-- the deck's own characters in its columns
abbrev pub characters_in : (card : List ℕ) → Field → List ℕ
characters_in card field = map (λ column. character_of (column_of card column)) (columns_in field)

-- what it reads on a card
abbrev pub reading_told : (tells_values : Bool) → (card : List ℕ) → Field → List ℕ
reading_told tells_values card field =
    codes ": [" ++ characters_in card field ++ codes "]" ++ value_part tells_values card field field.kind ++ codes "\n"

-- a field on a card
abbrev pub field_told : (tells_values : Bool) → (card : List ℕ) → Field → List ℕ
field_told tells_values card field = place_told field ++ reading_told tells_values card field

-- all fields, in the order of the chart
abbrev pub fields_told : (tells_values : Bool) → (card : List ℕ) → List Field → List ℕ
fields_told tells_values card fields = flat_map (field_told tells_values card) fields
