-- What is wrong, in the words of the line that breaks a rule, and what helps.
use Rattle.std.specs.Prelude.{ℕ, ◌&&◌, Bool, true, false, List, [], ◌++◌, Option, Some, None, codes, decimal, ◌==◌, nat_lt, if◌then◌else◌}
use Rattle.chart_lines.specs.ChartsWords.Field.{columns_of, decimals_of, sign_column}
use Rattle.chart_lines.specs.ChartsWords.Levels.{control_number, level_number}
use Rattle.chart_lines.specs.ChartsWords.Name.{name_text}
use Rattle.chart_lines.specs.declared.charts.chart.Line.{Line}
use Rattle.chart_lines.specs.declared.charts.level.ControlLevel.{ControlLevel}
use Rattle.chart_lines.specs.declared.charts.level.ControlLevel.TheVariants as control
use Rattle.chart_lines.specs.declared.charts.level.Level.TheVariants as level
use Rattle.chart_lines.specs.declared.charts.statement.After.TheVariants as after
use Rattle.chart_lines.specs.declared.charts.statement.Field.{Field}
use Rattle.chart_lines.specs.declared.charts.statement.Printing.TheVariants as print
use Rattle.chart_lines.specs.declared.charts.statement.Statement.{Statement}
use Rattle.chart_lines.specs.declared.charts.statement.Statement.TheVariants as says
use Rattle.chart_line_rules.specs.FieldRules.Control.{level_needed}
use Rattle.chart_line_rules.specs.FieldRules.Coupled.{has_sign, needs_two, positions_of}
use Rattle.chart_line_rules.specs.FieldRules.Digits.{digits_of}
use Rattle.chart_line_rules.specs.FieldRules.Fields.{first_named}
use Rattle.chart_line_rules.specs.FieldRules.Names.{names_amount}
use Rattle.chart_rules.specs.declared.rule.Rule.{Rule}
use Rattle.chart_rules.specs.declared.rule.Rule.TheVariants as rule
use Rattle.fault_slips.specs.Counts.{count_text}
use Rattle.fault_chart_words.specs.FaultWords.FormWords.{form_words}
use Rattle.fault_chart_words.specs.FaultWords.Parts.{coupled_place, has_stops, marked_place, name_on}
use Rattle.fault_chart_words.specs.FaultWords.Others.{meeting_words, met, number_words, range_text, subject, taken_words}
use Rattle.fault_chart_words.specs.declared.wording.TheConstants as wording

-- the field that a line is about, if its name has one
abbrev pub field_on : List Field → Option (List ℕ) → Option Field
field_on fields (Some name) = first_named fields name
field_on fields None = None

-- the sign column of a field
unfoldable pub sign_words : Option ℕ → List ℕ
sign_words None = []
sign_words (Some column) = wording.AND_ITS_SIGN_IN_COLUMN.now ++ decimal column

-- the columns of a name
unfoldable pub columns_text : List ℕ → ℕ → ℕ → List ℕ
columns_text name first last = name_text name ++ range_text wording.HAS_COLUMN.now first last

-- the columns of a field
unfoldable pub column_words : Statement → List ℕ
column_words (says.Field field) = columns_text field.name field.first field.last ++ sign_words (sign_column field.kind)
column_words other = []

-- the digits and decimals of a name
unfoldable pub size_text : List ℕ → ℕ → ℕ → List ℕ
size_text name digits decimals =
    name_text name ++ count_text wording.HAS.now digits wording.ONE_DIGIT.now ++ count_text wording.AND.now decimals wording.ONE_DECIMAL.now

-- the size of an amount
unfoldable pub size_words : Statement → List ℕ
size_words (says.Field field) = size_text field.name (columns_of field) (decimals_of field.kind)
size_words other = []

-- of an amount in the place of a text: on a total line it wants its digits
abbrev pub amount_words : Statement → List ℕ
amount_words (says.TotalText level wheel name) = wording.IS_AN_AMOUNT_WITHOUT_DIGITS.now
amount_words other = wording.IS_AN_AMOUNT.now

-- which kind of field a name stands for on a line
unfoldable pub kind_words : Statement → Bool → List ℕ
kind_words statement true = amount_words statement
kind_words statement false = wording.IS_A_TEXT.now

-- the word before the level that is wanted
abbrev pub level_word : Statement → List ℕ
level_word (says.DetailField wheel name shown) = wording.INDICATE.now
level_word other = wording.TOTAL.now

-- a level that wants a CONTROL line, behind the word that asks for it
unfoldable pub control_text : List ℕ → ℕ → List ℕ
control_text word level = (word ++ decimal level) ++ (wording.WANTS_A_CONTROL.now ++ decimal level ++ wording.ONE_LINE.now)

-- the level that has no CONTROL line
unfoldable pub uncontrolled_words : Statement → Option ControlLevel → List ℕ
uncontrolled_words statement None = []
uncontrolled_words statement (Some level) = control_text (level_word statement) (control_number level)

-- the level of a text on a total line
unfoldable pub total_level_words : Statement → List ℕ
total_level_words (says.TotalText level wheel name) = decimal (level_number level)
total_level_words other = []

-- the columns of a field that is there
abbrev pub columns_on : Option Field → ℕ
columns_on None = 0
columns_on (Some field) = columns_of field

-- the digits of a total alone
unfoldable pub total_text : ℕ → List ℕ
total_text digits = count_text wording.HAS_A_TOTAL_OF.now digits wording.ONE_DIGIT.now

-- columns, and the digits of a total
unfoldable pub columns_and_digits : ℕ → ℕ → List ℕ
columns_and_digits columns digits =
    count_text wording.HAS.now columns wording.ONE_COLUMN.now ++ count_text wording.AND_ITS_TOTAL.now digits wording.ONE_DIGIT.now

-- of a field whose last column stands before its first one there are no columns to tell of
abbrev pub digits_text : ℕ → ℕ → List ℕ
digits_text columns digits = if columns == 0 then total_text digits else columns_and_digits columns digits

-- the digits of a total, and the columns of its field, if it has any
unfoldable pub digit_words : Option Field → Statement → List ℕ
digit_words field statement = subject statement ++ digits_text (columns_on field) (digits_of statement)

-- a sign column without a mark, or the reverse
unfoldable pub mark_words : Bool → List ℕ
mark_words true = wording.HAS_A_SIGN_COLUMN.now
mark_words false = wording.HAS_NO_SIGN_COLUMN.now

-- what doesn't go with what is printed
unfoldable pub print_words : Statement → List ℕ
print_words (says.Print print.Detail) = wording.NO_DETAIL_LINE.now
print_words (says.Print print.Group) = wording.NO_TOTAL_LINE.now
print_words (says.Space line spacing) = wording.NOTHING_IS_PRINTED_THERE.now
print_words (says.After line action) = wording.NOTHING_IS_PRINTED_THERE.now
print_words other = wording.PRINT_GROUP_PRINTS_TOTALS.now

-- a channel without a TAPE line
unfoldable pub no_tape : ℕ → List ℕ
no_tape channel = wording.CHANNEL.now ++ decimal channel ++ wording.HAS_NO_TAPE_LINE.now

-- a skip to a channel that no TAPE line is of, or that can't have one
unfoldable pub skip_words : ℕ → List ℕ
skip_words channel = if has_stops channel then no_tape channel else wording.A_SKIP_GOES_TO_A_CHANNEL.now

-- a channel that can't have stops
unfoldable pub no_stops : ℕ → List ℕ
no_stops channel = wording.THE_CHANNEL_IS.now ++ decimal channel ++ wording.AND_ONLY_2_TO_11_HAVE_STOPS.now

-- what is wrong with a TAPE line: its channel, or its stops
unfoldable pub stops_words : ℕ → List ℕ
stops_words channel =
    if has_stops channel then wording.THE_STOPS_DONT_RISE.now else no_stops channel

-- a skip to a channel without a TAPE line, or a TAPE line at fault
unfoldable pub tape_words : Statement → List ℕ
tape_words (says.After line (after.Skip channel)) = skip_words channel
tape_words (says.Tape channel stops) = stops_words channel
tape_words other = []

-- how many counter groups a total takes
unfoldable pub group_words : Bool → List ℕ
group_words true = wording.IT_TAKES_TWO_GROUPS.now
group_words false = wording.ONE_GROUP_IS_ENOUGH.now

-- the positions of a total
unfoldable pub need_text : ℕ → List ℕ
need_text need = count_text wording.THE_TOTAL_NEEDS.now need wording.ONE_POSITION.now

unfoldable pub coupled_words : ℕ → List ℕ
coupled_words need = need_text need ++ group_words (needs_two need)

-- a name that another line describes
unfoldable pub described_words : Statement → Option Line → List ℕ
described_words line other = subject line ++ wording.IS_DESCRIBED_ALREADY_ON.now ++ number_words other

-- a name that no line describes
unfoldable pub undescribed_words : Statement → List ℕ
undescribed_words line = wording.NO_FIELD_LINE_DESCRIBES.now ++ subject line

-- a question for a name that a line describes
unfoldable pub asked_words : Statement → List ℕ
asked_words line = wording.DID_YOU_MEAN.now ++ subject line

-- the name that a line describes, if it may be meant
unfoldable pub meant_words : Option Line → List ℕ
meant_words None = []
meant_words (Some line) = asked_words line.statement ++ codes "?"

unfoldable pub unknown_words : Statement → Option Line → List ℕ
unknown_words line other = undescribed_words line ++ meant_words other

-- a name of the wrong kind of field
unfoldable pub wrong_kind_words : Statement → Bool → List ℕ
wrong_kind_words line is_amount = subject line ++ kind_words line is_amount

-- the printed line of an item
unfoldable pub line_of_item : Statement → List ℕ
line_of_item (says.TotalText level wheel name) = wording.TOTAL.now ++ decimal (level_number level)
line_of_item (says.TotalAmount total) = wording.TOTAL.now ++ decimal (level_number total.level)
line_of_item other = wording.THE_LINE_OF_A_CARD.now

-- a field that is on a printed line already
unfoldable pub item_twice_words : Statement → Option Line → List ℕ
item_twice_words line other = subject line ++ wording.IS_ON.now ++ line_of_item line ++ wording.ALREADY_BY.now ++ number_words other

-- which line there is already
abbrev pub line_there : Statement → List ℕ
line_there (says.Print printing) = wording.IS_A_PRINT_LINE_ALREADY.now
line_there (says.Form lines first overflow) = wording.IS_A_FORM_LINE_ALREADY.now
line_there (says.Control level name) = wording.HAS_THIS_LEVEL_AND_FIELD_ALREADY.now
line_there (says.Space line spacing) = wording.SPACES_THIS_KIND_OF_LINE_ALREADY.now
line_there (says.After line action) = wording.SAYS_WHAT_FOLLOWS_ALREADY.now
line_there (says.Tape channel stops) = wording.IS_A_TAPE_LINE_ALREADY.now
line_there other = wording.SAYS_THIS_ALREADY.now

-- a line of which a chart has one
unfoldable pub line_twice_words : Statement → Option Line → List ℕ
line_twice_words line other = number_words other ++ line_there line

-- whether a line puts a field on a printed line
abbrev pub is_field_item : Statement → Bool
is_field_item (says.DetailField wheel name shown) = true
is_field_item (says.TotalText level wheel name) = true
is_field_item (says.TotalAmount total) = true
is_field_item other = false

-- what a chart says twice
abbrev pub said_words : Bool → Statement → Option Line → List ℕ
said_words true line other = item_twice_words line other
said_words false line other = line_twice_words line other

-- a text on a total line that is no control field
unfoldable pub not_control_words : Statement → List ℕ
not_control_words line = subject line ++ wording.IS_NO_CONTROL_FIELD_OF_LEVEL.now ++ total_level_words line ++ wording.OR_A_HIGHER_ONE.now

-- whether a line is a text on the total line of the whole deck
abbrev pub is_of_deck : Statement → Bool
is_of_deck (says.TotalText level.Final wheel name) = true
is_of_deck other = false

-- a text that isn't the same on all cards of its total
abbrev pub total_text_words : Bool → Statement → List ℕ
total_text_words true line = wording.TOTAL_4_HAS_NO_TEXT.now
total_text_words false line = not_control_words line

-- a total that has fewer digits than a lower one
unfoldable pub shrink_words : Statement → Option Line → List ℕ
shrink_words line other = number_words other ++ wording.HAS_A_LOWER_TOTAL_OF.now ++ subject line ++ wording.IN_MORE_DIGITS.now

-- an amount whose mark doesn't match its sign column
unfoldable pub mismatch_words : Statement → Bool → List ℕ
mismatch_words line is_signed = subject line ++ mark_words is_signed

-- an item, and the one whose wheels it takes
unfoldable pub wheels_met : List Field → Statement → Option Line → List ℕ
wheels_met fields line other = taken_words fields line ++ meeting_words fields other

-- the positions that the total of a line needs
abbrev pub need_on : List Field → Statement → ℕ
need_on fields line = positions_of (field_on fields (name_on line)) (digits_of line)

-- the place of the word that is marked on a line of a chart
abbrev pub place_on : Rule → List Field → List Line → Statement → ℕ
place_on rule.CoupledMark fields chart line = coupled_place (needs_two (need_on fields line))
place_on other fields chart line = marked_place other chart line

-- what is wrong with a line by the rule that it breaks: the fields and the lines of the chart, the lines before this one, and what it says
abbrev pub words : Rule → List Field → List Line → List Line → Statement → List ℕ
words rule.NameTwice fields chart earlier line = described_words line (met rule.NameTwice fields earlier line)
words rule.Columns fields chart earlier line = column_words line
words rule.AmountSize fields chart earlier line = size_words line
words rule.UnknownName fields chart earlier line = unknown_words line (met rule.UnknownName fields chart line)
words rule.WrongKind fields chart earlier line = wrong_kind_words line (names_amount (field_on fields (name_on line)))
words rule.LineTwice fields chart earlier line = said_words (is_field_item line) line (met rule.LineTwice fields earlier line)
words rule.NoControl fields chart earlier line = uncontrolled_words line (level_needed line)
words rule.TotalTextNotControl fields chart earlier line = total_text_words (is_of_deck line) line
words rule.DigitsRange fields chart earlier line = digit_words (field_on fields (name_on line)) line
words rule.DigitsShrink fields chart earlier line = shrink_words line (met rule.DigitsShrink fields chart line)
words rule.MarkMismatch fields chart earlier line = mismatch_words line (has_sign (field_on fields (name_on line)))
words rule.WheelRange fields chart earlier line = taken_words fields line
words rule.WheelOverlap fields chart earlier line = wheels_met fields line (met rule.WheelOverlap fields earlier line)
words rule.WheelClash fields chart earlier line = wheels_met fields line (met rule.WheelClash fields earlier line)
words rule.PrintKind fields chart earlier line = print_words line
words rule.Form fields chart earlier line = form_words chart line
words rule.Tape fields chart earlier line = tape_words line
words rule.CoupledMark fields chart earlier line = coupled_words (need_on fields line)

-- what is wrong at END: the line that is missing
abbrev pub end_words : Rule → List ℕ
end_words rule.PrintKind = wording.THERE_IS_NO_PRINT_LINE.now
end_words other = wording.THERE_IS_NO_FORM_LINE.now

-- what helps an amount: fewer digits, or fewer decimals
abbrev pub fewer : (is_long : Bool) → List ℕ
fewer true = wording.FEWER_DIGITS.now
fewer false = wording.FEWER_DECIMALS.now

abbrev pub size_cure : Statement → List ℕ
size_cure (says.Field field) = fewer (nat_lt 8 (columns_of field))
size_cure other = []

-- what helps a level without a CONTROL line
abbrev pub control_cure : Option ControlLevel → List ℕ
control_cure (Some control.Minor) = wording.WRITE_CONTROL_1.now
control_cure (Some control.Intermediate) = wording.WRITE_CONTROL_2.now
control_cure (Some control.Major) = wording.WRITE_CONTROL_3.now
control_cure None = []

-- what helps a text that isn't the same on all cards of its total
abbrev pub total_text_cure : Bool → List ℕ
total_text_cure true = wording.TAKE_OUT_OR_PRINT_ON_DETAIL.now
total_text_cure false = wording.MAKE_IT_A_CONTROL_FIELD.now

-- what helps if a line doesn't go with what is printed
abbrev pub print_cure : Statement → List ℕ
print_cure (says.Print print.Detail) = wording.WRITE_A_DETAIL_LINE.now
print_cure (says.Print print.Group) = wording.WRITE_A_TOTAL_LINE.now
print_cure (says.Space line spacing) = wording.TAKE_OUT_OR_WRITE_THE_ITEM.now
print_cure (says.After line action) = wording.TAKE_OUT_OR_WRITE_THE_ITEM.now
print_cure other = wording.WRITE_PRINT_DETAIL.now

-- what helps a form
abbrev pub form_cure : List ℕ
form_cure =
    wording.A_FORM_IS.now

-- what helps at END
abbrev pub end_cure : Rule → List ℕ
end_cure rule.PrintKind = wording.WRITE_A_PRINT_LINE.now
end_cure other = form_cure

-- what helps, by what the line says
abbrev pub cure : Rule → Statement → List ℕ
cure rule.NameTwice line = wording.GIVE_IT_ANOTHER_NAME.now
cure rule.Columns line = wording.A_CARD_HAS_COLUMNS.now
cure rule.AmountSize line = size_cure line
cure rule.UnknownName line = wording.WRITE_THE_FIELD_LINE.now
cure rule.WrongKind line = wording.A_TOTAL_NEEDS_ITS_DIGITS.now
cure rule.LineTwice line = wording.TAKE_ONE_OF_THEM_OUT.now
cure rule.NoControl line = control_cure (level_needed line)
cure rule.TotalTextNotControl line = total_text_cure (is_of_deck line)
cure rule.DigitsRange line = wording.A_TOTAL_HAS_DIGITS.now
cure rule.DigitsShrink line = wording.A_HIGHER_TOTAL_NEEDS_DIGITS.now
cure rule.MarkMismatch line = wording.EVERY_SIGNED_AMOUNT_HAS_A_MARK.now
cure rule.WheelRange line = wording.THE_MACHINE_HAS_WHEELS.now
cure rule.WheelOverlap line = wording.MOVE_ONE_OF_THEM.now
cure rule.WheelClash line = wording.AN_AMOUNT_SHARES_WHEELS.now
cure rule.PrintKind line = print_cure line
cure rule.Form line = form_cure
cure rule.Tape line = wording.WRITE_A_TAPE_LINE.now
cure rule.CoupledMark line = wording.WRITE_COUPLED.now
