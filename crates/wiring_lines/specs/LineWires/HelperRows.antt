-- A helper of the code: the wires that each of its functions adds, in the order of the table.
use Rattle.std.specs.Prelude.{◌≡◌, ◌≢◌, ℕ, ◌+◌, ◌-◌, ◌<◌, List, Option, Some, length, slice_get, slice_index_or, true}
use Rattle.chart_plans.specs.PlansWords.Plans.{Lists}
use Rattle.card_code.specs.CardCode.{has_row}
use Rattle.card_code.specs.Rows.{row_number, rows}
use Rattle.card_code.specs.declared.row.Row.TheVariants.{Zero}
use Rattle.chart_lines.specs.ChartsWords.Field.{columns_of, decimals_of, sign_column}
use Rattle.chart_lines.specs.ChartsWords.Levels.{control_number}
use Rattle.chart_lines.specs.ChartsWords.Spacings.{spacing_number}
use Rattle.chart_lines.specs.declared.charts.level.ControlLevel.{ControlLevel}
use Rattle.chart_lines.specs.declared.charts.spacing.Spacing.{Spacing}
use Rattle.chart_lines.specs.declared.charts.statement.After.{After}
use Rattle.chart_lines.specs.declared.charts.statement.After.TheVariants as action
use Rattle.chart_lines.specs.declared.charts.statement.BodyLine.{BodyLine}
use Rattle.chart_lines.specs.declared.charts.statement.Field.{Field}
use Rattle.chart_lines.specs.declared.charts.statement.Mark.{Mark}
use Rattle.chart_lines.specs.declared.charts.statement.SignRule.{SignRule}
use Rattle.hubs.specs.declared.hub.Hub.{Hub}
use Rattle.hubs.specs.declared.hub.Hub.TheVariants.{FR, SR, CX, IX, CSD, EM, CA, CB, PIC, PIX, IE, CSE, W, ST, SP, SK, RS}
use Rattle.wiring_table.specs.Figures.{digit_wheel, point_wheel, mark_text, detail_emitter}
use Rattle.wiring_lines.specs.LineWires.HelperAdds.{One, Both, Upto, OfSome, Where, Punched}
use Rattle.wiring_table.specs.Parts.{pilot_for, comparing_for, indicate_for, split_for, negative_side, source_of}

-- relations between exits and entries
abbrev pub Wires : Type 1
Wires = Hub → Hub → Type 0

-- columns at second reading to as many wheels
abbrev pub TextWires : (wheel : ℕ) → Field → Wires
TextWires wheel field = Upto (columns_of field) (λ j. One (SR (field.first + j)) (W (wheel + j)))

-- a column through a position of a level to a wheel
abbrev pub IndicatedColumn : Lists → ControlLevel → (number column wheel : ℕ) → Wires
IndicatedColumn plan level number column wheel =
    OfSome (indicate_for plan level number column)
    (λ x. Both (One (SR column) (IE (control_number level) x)) (One (IX (control_number level) x) (W wheel)))

-- the columns of an indicated text
abbrev pub IndicatedWires : Lists → ControlLevel → (number wheel : ℕ) → Field → Wires
IndicatedWires plan level number wheel field =
    Upto (columns_of field) (λ j. IndicatedColumn plan level number (field.first + j) (wheel + j))

-- a row of an emitter, where it is punched in a column
abbrev pub RowWire : (emitter : ℕ) → Hub → (column row : ℕ) → Wires
RowWire emitter entry column row = Where (has_row column row ≡ true) (One (EM emitter row) entry)

-- the number of the row at a place in the order in which rows pass the brushes
abbrev pub number_at : ℕ → ℕ
number_at place = row_number (slice_index_or rows place Zero)

-- the rows of a column from an emitter to an entry
abbrev pub ColumnWires : (emitter : ℕ) → Hub → (column : ℕ) → Wires
ColumnWires emitter entry column = Upto 12 (λ place. RowWire emitter entry column (number_at place))

-- the rows of a character from an emitter to an entry
abbrev pub CharacterWires : (emitter : ℕ) → Hub → (character : ℕ) → Wires
CharacterWires emitter entry character = Punched character (λ row. One (EM emitter row) entry)

-- the characters of a text from an emitter to as many wheels
abbrev pub LiteralWires : (emitter wheel : ℕ) → List ℕ → Wires
LiteralWires emitter wheel text =
    Upto (length text) (λ j. OfSome (slice_get text j) (λ character. CharacterWires emitter (W (wheel + j)) character))

-- the point of an amount from an emitter to its wheel
abbrev pub PointWires : (emitter wheel digits decimals : ℕ) → Wires
PointWires emitter wheel digits decimals =
    Where (0 < decimals) (CharacterWires emitter (W (point_wheel wheel digits decimals)) 46)

-- a column to the wheel of its digit, through a split where the sign stands in it
abbrev pub DigitWires : Lists → (number : ℕ) → (sign : Option ℕ) → (column wheel : ℕ) → Wires
DigitWires plan number sign column wheel =
    Both (Where (sign ≢ Some column) (One (SR column) (W wheel)))
    (Where (sign ≡ Some column)
    (OfSome (split_for plan number) (λ split. Both (One (SR column) (CSE split)) (One (CSD split) (W wheel)))))

-- so many columns before an end to the wheels of their digits
abbrev pub AmountDigits : Lists → (number wheel end : ℕ) → (sign : Option ℕ) → (digits decimals : ℕ) → Wires
AmountDigits plan number wheel end sign digits decimals =
    Upto digits (λ place.
    DigitWires plan number sign (end - (place + 1)) (digit_wheel wheel digits decimals (place + 1)))

-- the columns of an amount to the wheels of its digits
abbrev pub DetailDigits : Lists → (number wheel : ℕ) → Field → Wires
DetailDigits plan number wheel field =
    AmountDigits plan number wheel (field.last + 1) (sign_column field.kind) (columns_of field) (decimals_of field.kind)

-- the characters of a mark: each from an emitter to an entry, and from an exit to its wheel
abbrev pub MarkWires : (emitter wheel : ℕ) → List ℕ → (common side : ℕ → Hub) → Wires
MarkWires emitter wheel text common side =
    Upto (length text) (λ k. OfSome (slice_get text k) (λ character.
    Both (CharacterWires emitter (common k) character) (One (side k) (W (wheel + k)))))

-- the mark of an amount on the line of a card, through the positions 2 and 3 of its pilot
abbrev pub DetailMark : SignRule → (pilot wheel : ℕ) → Mark → Wires
DetailMark rule pilot wheel mark =
    MarkWires detail_emitter wheel (mark_text mark) (λ k. PIC pilot (2 + k)) (λ k. negative_side rule pilot (2 + k))

-- the sign column of an amount at first reading to its pilot
abbrev pub PickupWires : Lists → Field → Wires
PickupWires plan field =
    OfSome (sign_column field.kind) (λ column. OfSome (pilot_for plan field.name) (λ pilot. One (FR column) (PIX pilot)))

-- a column of a control field through its comparing position
abbrev pub ComparedColumn : Lists → ControlLevel → (number column : ℕ) → Wires
ComparedColumn plan level number column =
    OfSome (comparing_for plan number column) (λ position.
    Both (One (FR column) (CA position))
    (Both (One (SR column) (CB position)) (One (CX position) (ST (control_number level)))))

-- the columns of a control field
abbrev pub ComparedWires : Lists → ControlLevel → (number : ℕ) → Field → Wires
ComparedWires plan level number field =
    Upto (columns_of field) (λ j. ComparedColumn plan level number (field.first + j))

-- the spacing of a kind of line, if it is not single
abbrev pub SpaceWires : BodyLine → Spacing → Wires
SpaceWires line spacing = Where (1 < spacing_number spacing) (One (source_of line) (SP (spacing_number spacing)))

-- the entry of the carriage that does what follows a line
abbrev pub entry_of_action : After → Hub
entry_of_action action.Page = RS
entry_of_action (action.Skip channel) = SK channel

-- what follows a kind of line
abbrev pub AfterWires : BodyLine → After → Wires
AfterWires line action = One (source_of line) (entry_of_action action)
