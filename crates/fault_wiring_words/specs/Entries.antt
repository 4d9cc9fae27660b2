-- The entry of a fault of a wiring chart: a line with the number of the chart's line, the number of the fault and its name; the chart's line
-- as it stands; a mark under a word of it; what is wrong; and what helps. All but the first line are indented.
use Rattle.std.specs.Prelude.{ℕ, ◌==◌, Bool, List, [], ◌++◌, codes, length, nat_le, if◌then◌else◌}
use Rattle.std.specs.List.{flat_map}
use Rattle.card_code.specs.Deck.{line_at}
use Rattle.fault_slips.specs.LineMarks.Entries.{below, head_line, shown}
use Rattle.fault_slips.specs.LineMarks.FirstLines.{first_line, is_end}
use Rattle.fault_slips.specs.LineMarks.Spans.{span_of}
use Rattle.hubs.specs.declared.setups.fault.SetupFault.{SetupFault}
use Rattle.chart_lines.specs.TokensWords.FrameReading.{is_title_line}
use Rattle.fault_wiring_slips.specs.Meetings.{meets}
use Rattle.fault_wiring_slips.specs.declared.meeting.Meeting.TheVariants as meeting
use Rattle.wiring_text.specs.declared.fault.WiringFault.{WiringFault}
use Rattle.wiring_text.specs.declared.fault.WiringFault.TheVariants as wiring
use Rattle.fault_wiring_words.specs.Lines.{misplaced_told}
use Rattle.fault_wiring_words.specs.Unfit.{form_place, form_wrong, twice_wrong, unfit_cure, unfit_name, unfit_place, unfit_wrong}
use Rattle.fault_wiring_words.specs.declared.wording.TheConstants as wording

-- whether a line is the first one of a wiring chart in version 2 of the language, or in version 1
abbrev pub is_second_title : List ℕ → Bool
is_second_title line = is_title_line (codes "WIRING407") (codes "2") line

abbrev pub is_first_title : List ℕ → Bool
is_first_title line = is_title_line (codes "WIRING407") (codes "1") line

-- what is told of one of the first two lines: the line, what is wrong and what helps
unfoldable pub head_told : List ℕ → List ℕ → List ℕ → List ℕ
head_told line wrong cure = shown line (span_of 0 line) ++ below wrong ++ below cure

-- the entry of such a line
unfoldable pub head_entry : ℕ → List ℕ → List ℕ → List ℕ → List ℕ
head_entry number line wrong cure = head_line number 72 (codes "NoFirstLine") ++ head_told line wrong cure

-- the entry of a text that has another first line, or else no FORM on line 2
unfoldable pub title_entry : List ℕ → List ℕ
title_entry line =
    head_entry 1 line wording.THE_FIRST_LINE_IS_THE_TITLE.now
    wording.WRITE_IT_THERE.now

unfoldable pub form_entry : List ℕ → List ℕ
form_entry line =
    head_entry 2 line wording.LINE_2_IS_FORM_WITH_THREE_NUMBERS.now wording.WRITE_THE_FORM.now

unfoldable pub first_entry : List ℕ → List ℕ
first_entry source =
    if is_second_title (line_at source 1) then form_entry (line_at source 2)
    else if is_first_title (line_at source 1) then form_entry (line_at source 2)
    else title_entry (line_at source 1)

-- the entry of a line that is none of a wiring chart
unfoldable pub misplaced_entry : List ℕ → List ℕ → ℕ → List ℕ
misplaced_entry source good number =
    head_line number 73 (codes "NotALine")
    ++ misplaced_told (is_second_title (line_at source 1)) (first_line is_end good) number (line_at source number)

-- what is told of a line that stood before
unfoldable pub twice_told : List ℕ → List ℕ → List ℕ
twice_told good line =
    shown line (span_of 1 line) ++ below (twice_wrong (first_line (meets meeting.Same line) good))
    ++ wording.TAKE_ONE_OF_THEM_OUT.now

unfoldable pub twice_entry : List ℕ → List ℕ → ℕ → List ℕ
twice_entry source good number = head_line number 74 (codes "LineTwice") ++ twice_told good (line_at source number)

-- what is told of the form, on line 2
unfoldable pub form_told : List ℕ → List ℕ
form_told line =
    shown line (span_of (form_place line) line) ++ below (form_wrong line)
    ++ wording.A_FORM_HAS_3_TO_144_LINES.now

-- what is told of a line that the panel can't have
unfoldable pub unfit_told : SetupFault → List ℕ → List ℕ → List ℕ → List ℕ
unfit_told cause form good line =
    shown line (span_of (unfit_place cause good line) line) ++ below (unfit_wrong cause form good line) ++ below (unfit_cure cause line)

unfoldable pub unfit_entry : List ℕ → List ℕ → ℕ → SetupFault → List ℕ
unfit_entry source good number cause =
    head_line number 75 (unfit_name cause)
    ++ (if number == 2 then form_told (line_at source 2) else unfit_told cause (line_at source 2) good (line_at source number))

-- the entry of a fault, beside the text without the lines at fault
abbrev pub wiring_entry : List ℕ → List ℕ → WiringFault → List ℕ
wiring_entry source good wiring.TooLarge =
    wording.TOO_LARGE.now
wiring_entry source good wiring.NoFirstLine = first_entry source
wiring_entry source good (wiring.NotALine line) = misplaced_entry source good line
wiring_entry source good (wiring.LineTwice line) = twice_entry source good line
wiring_entry source good (wiring.Unfit line cause) = unfit_entry source good line cause
wiring_entry source good wiring.NoEnd = wording.NO_END.now
wiring_entry source good wiring.Memory = []

-- the entries of faults, one after another
abbrev pub wiring_entries : List ℕ → List ℕ → List WiringFault → List ℕ
wiring_entries source good faults = flat_map (wiring_entry source good) faults

-- what stands below 500 entries: no more are listed
abbrev pub more_words : ℕ → List ℕ
more_words count = if nat_le 500 count then wording.THERE_MAY_BE_MORE.now else []

-- what is listed of the faults of a wiring chart
unfoldable pub wiring_list : List ℕ → List ℕ → List WiringFault → List ℕ
wiring_list source good faults = wiring_entries source good faults ++ more_words (length faults)
