-- The lines behind the rows: which character they are, and what zero control did.
use Rattle.std.specs.Prelude.{ℕ, ◌+◌, ◌==◌, Bool, false, List, [], ◌∷◌, ◌++◌, codes, decimal, is_some, map, slice_index_or, if◌then◌else◌}
use Rattle.std.specs.List.{flat_map, range_with_len}
use Rattle.explain_wheels.specs.declared.explanations.explanation.Explanation.{Explanation}
use Rattle.explain_wheels.specs.declared.explanations.significance.Giver.{Giver}
use Rattle.explain_wheels.specs.declared.explanations.significance.Significance.{Significance}
use Rattle.explain_wheels.specs.declared.explanations.significance.Significance.TheVariants.{Uncontrolled, From, Absent}
use Rattle.hubs.specs.declared.jack.Jack.TheVariants.{Suppress, Symbol}
use Rattle.print_unit.specs.ZeroControl.{character_of, count_of, is_zero}
use Rattle.hubs.specs.SetupsWords.Wiring.{Wiring, is_plugged}
use Rattle.explain_words.specs.ExplanationText.Text.{character_text, row_at}

-- whether the wheel received each row, in the order of the points
abbrev pub received_by : Explanation → List Bool
received_by told = map is_some told.rows.items

-- the numbers of the rows that were received, in their order
abbrev pub row_listed : List Bool → ℕ → List ℕ
row_listed received place = if slice_index_or received place false then row_at place ∷ [] else []

unfoldable pub rows_listed : List Bool → List ℕ
rows_listed received = flat_map (row_listed received) (range_with_len 0 12)

-- the rows behind the first one of a list
abbrev pub separator : List ℕ → List ℕ
separator [] = codes " and "
separator (next ∷ others) = codes ", "

abbrev pub listed : List ℕ → List ℕ
listed [] = []
listed (row ∷ others) = separator others ++ decimal row ++ listed others

-- the print character that the rows are, or words that they are none
abbrev pub printed_text : ℕ → List ℕ
printed_text character = if character == 32 then codes "no print character: a blank" else character_text character

-- the rows, one or several
abbrev pub rows_are : ℕ → List ℕ → List ℕ
rows_are row [] = codes "row " ++ decimal row ++ codes " is "
rows_are row (next ∷ others) = codes "rows " ++ decimal row ++ listed (next ∷ others) ++ codes " are "

-- the line that tells which character the rows are; none where no row was received
abbrev pub character_line : List ℕ → ℕ → List ℕ
character_line [] character = []
character_line (row ∷ others) character = rows_are row others ++ printed_text character ++ codes "\n"

-- a wheel prints what it received, which may be no print character
abbrev pub kept_words : ℕ → List ℕ
kept_words character = if character == 32 then codes "it changes nothing" else codes "it prints"

-- how significance goes from one wheel to another: LINK is plugged on the wheels behind the one, up to the other
abbrev pub links_words : ℕ → ℕ → List ℕ
links_words from wheel =
    if from + 1 == wheel
    then codes ", and LINK " ++ decimal wheel ++ codes " passes it on"
    else codes ", and LINK " ++ decimal (from + 1) ++ codes " to " ++ decimal wheel ++ codes " pass it on"

-- the wheel that gives significance to another
abbrev pub giver_words : Giver → ℕ → List ℕ
giver_words giver wheel =
    codes "; wheel " ++ decimal giver.wheel ++ codes " received one figure, " ++ decimal giver.figure ++ links_words giver.wheel wheel
    ++ codes ": so "

-- a wheel of a cycle without zero control
abbrev pub uncontrolled_words : ℕ → List ℕ
uncontrolled_words character = codes "; heading cycles have none: " ++ kept_words character

-- what zero control did to what a SYMBOL wheel received
abbrev pub symbol_words : List Bool → ℕ → Significance → List ℕ
symbol_words received wheel Uncontrolled = uncontrolled_words (character_of received)
symbol_words received wheel (From giver) = giver_words giver wheel ++ kept_words (character_of received)
symbol_words received wheel Absent = codes " without significance: it is blank"

-- what a SUPPRESS wheel does with what is no zero alone
abbrev pub unchanged_words : ℕ → List ℕ
unchanged_words character = codes " blanks only a zero, and this is none: " ++ kept_words character

-- what it did to what a SUPPRESS wheel received
abbrev pub given_words : List Bool → ℕ → Giver → List ℕ
given_words received wheel giver =
    if is_zero received then giver_words giver wheel ++ codes "the zero prints" else unchanged_words (character_of received)

abbrev pub absent_words : List Bool → List ℕ
absent_words received =
    if is_zero received then codes " without significance: the zero is blank" else unchanged_words (character_of received)

abbrev pub suppress_words : List Bool → ℕ → Significance → List ℕ
suppress_words received wheel Uncontrolled = uncontrolled_words (character_of received)
suppress_words received wheel (From giver) = given_words received wheel giver
suppress_words received wheel Absent = absent_words received

-- what it did to a wheel, which may have received nothing
abbrev pub received_words : List Bool → List ℕ → List ℕ
received_words received words = if count_of received == 0 then codes " that received nothing: it is blank" else words

abbrev pub symbol_told : List Bool → Explanation → List ℕ
symbol_told received told = received_words received (symbol_words received told.wheel told.significance)

abbrev pub suppress_told : List Bool → Explanation → List ℕ
suppress_told received told = received_words received (suppress_words received told.wheel told.significance)

-- the line on zero control of a SYMBOL wheel, and that of a SUPPRESS wheel
abbrev pub symbol_line : List Bool → Explanation → List ℕ
symbol_line received told = codes "zero control: a SYMBOL wheel" ++ symbol_told received told ++ codes "\n"

abbrev pub suppress_line : List Bool → Explanation → List ℕ
suppress_line received told = codes "zero control: a SUPPRESS wheel" ++ suppress_told received told ++ codes "\n"

-- The line on zero control; none where the wheel has neither of the jacks.
abbrev pub zero_control_line : Wiring → List Bool → Explanation → List ℕ
zero_control_line wiring received told =
    if is_plugged wiring (Symbol told.wheel)
    then symbol_line received told
    else if is_plugged wiring (Suppress told.wheel) then suppress_line received told else []

-- The lines behind the rows, of a wheel that received some of them.
abbrev pub closing_lines : Wiring → List Bool → Explanation → List ℕ
closing_lines wiring received told =
    character_line (rows_listed received) (character_of received) ++ zero_control_line wiring received told

abbrev pub closing : Wiring → Explanation → List ℕ
closing wiring told = closing_lines wiring (received_by told) told
