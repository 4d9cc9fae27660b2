-- The words that are told of a line that no form derives.
use Rattle.std.specs.Prelude.{ℕ, Bool, List, codes, if◌then◌else◌, ◌||◌}
use Rattle.std.specs.Str.{str_eq_ignore_ascii_case}
use Rattle.fault_slips.specs.LineSlips.Near.{is_near}
use Rattle.fault_slips.specs.declared.line_slips.slip.Slip.{Slip}
use Rattle.fault_slips.specs.declared.line_slips.slip.Slip.TheVariants as slip
use Rattle.fault_slips.specs.declared.wording.TheConstants as wording

-- whether a word, in capital or small letters, is one in capital letters
abbrev pub is_word : List ℕ → List ℕ → Bool
is_word word capitals = str_eq_ignore_ascii_case word capitals

-- whether forms of the lines that print begin with a word, in capital or small letters
abbrev pub begins_item : List ℕ → Bool
begins_item word =
    is_word word (codes "HEAD") || is_word word (codes "DETAIL") || is_word word (codes "TOTAL") || is_word word (codes "SPACE")
    || is_word word (codes "AFTER")

-- whether forms begin with a word, in capital or small letters
abbrev pub begins_form : List ℕ → Bool
begins_form word =
    begins_item word || is_word word (codes "FIELD") || is_word word (codes "CONTROL") || is_word word (codes "PRINT")
    || is_word word (codes "FORM") || is_word word (codes "TAPE") || is_word word (codes "END")

-- what is wrong with a line whose bytes tell no slip, by its first word
unfoldable pub first_words : List ℕ → List ℕ
first_words word =
    if is_word word (codes "CHART407") then wording.ONLY_THE_FIRST_LINE_IS_THE_TITLE.now
    else if begins_form word then wording.NO_LINE_HAS_THESE_WORDS_IN_THIS_ORDER.now
    else wording.NO_LINE_BEGINS_WITH_THIS_WORD.now

-- what is wrong with a tab
abbrev pub tab_words : List ℕ
tab_words = wording.THERE_IS_A_TAB.now

-- what helps for a tab
abbrev pub tab_cure : List ℕ
tab_cure = wording.PUT_A_SPACE_IN_ITS_PLACE.now

-- what is wrong by a slip, with a line whose first word this is
unfoldable pub slip_words : Slip → List ℕ → List ℕ
slip_words slip.Tab word = tab_words
slip_words slip.Comment word = wording.NO_COMMENTS.now
slip_words slip.Quotation word = wording.NO_QUOTATION_MARKS.now
slip_words slip.Unclosed word = wording.AN_APOSTROPHE_IS_NOT_CLOSED.now
slip_words slip.Small word = wording.ONLY_CAPITAL_LETTERS.now
slip_words slip.Unprintable word = wording.THIS_CHARACTER_CANT_BE_PRINTED.now
slip_words slip.Other word = first_words word

-- the first word of a line that may be meant
unfoldable pub near_word : List ℕ → List ℕ
near_word word =
    if is_near (codes "FIELD") word then wording.MEANT_FIELD.now
    else if is_near (codes "CONTROL") word then wording.MEANT_CONTROL.now
    else if is_near (codes "PRINT") word then wording.MEANT_PRINT.now
    else if is_near (codes "HEAD") word then wording.MEANT_HEAD.now
    else if is_near (codes "DETAIL") word then wording.MEANT_DETAIL.now
    else if is_near (codes "TOTAL") word then wording.MEANT_TOTAL.now
    else if is_near (codes "SPACE") word then wording.MEANT_SPACE.now
    else if is_near (codes "AFTER") word then wording.MEANT_AFTER.now
    else if is_near (codes "FORM") word then wording.MEANT_FORM.now
    else if is_near (codes "TAPE") word then wording.MEANT_TAPE.now
    else if is_near (codes "END") word then wording.MEANT_END.now
    else wording.A_LINE_BEGINS_WITH.now

-- the form of a word, in capital or small letters
unfoldable pub form_words : List ℕ → List ℕ
form_words word =
    if is_word word (codes "FIELD") then wording.FIELD_TAKES.now
    else if is_word word (codes "CONTROL") then wording.CONTROL_TAKES.now
    else if is_word word (codes "PRINT") then wording.PRINT_TAKES.now
    else if is_word word (codes "HEAD") then wording.HEAD_TAKES.now
    else if is_word word (codes "DETAIL") then wording.DETAIL_TAKES.now
    else if is_word word (codes "TOTAL") then wording.TOTAL_TAKES.now
    else if is_word word (codes "SPACE") then wording.SPACE_TAKES.now
    else if is_word word (codes "AFTER") then wording.AFTER_TAKES.now
    else if is_word word (codes "FORM") then wording.FORM_TAKES.now
    else if is_word word (codes "TAPE") then wording.TAPE_TAKES.now
    else if is_word word (codes "END") then wording.END_STANDS_ALONE.now
    else if is_word word (codes "CHART407") then wording.THE_TITLE_STANDS_ALREADY.now
    else near_word word

-- what helps by a slip: the form of the line's first word, but for a tab a space
unfoldable pub cure_words : Slip → List ℕ → List ℕ
cure_words slip.Tab word = tab_cure
cure_words what word = form_words word
