-- What is told of a line that is none of a wiring chart.
use Rattle.std.specs.Prelude.{ℕ, Bool, List, [], ◌++◌, Option, Some, None, codes, take, drop, nat_lt, if◌then◌else◌}
use Rattle.fault_slips.specs.LineMarks.Entries.{below, shown}
use Rattle.fault_slips.specs.LineMarks.Spans.{word}
use Rattle.fault_slips.specs.LineSlips.Forms.{tab_cure, tab_words}
use Rattle.fault_slips.specs.LineSlips.LineEntries.{behind_told}
use Rattle.fault_slips.specs.declared.line_slips.slip.Slip.{Slip}
use Rattle.fault_slips.specs.declared.line_slips.slip.Slip.TheVariants as slip
use Rattle.fault_wiring_slips.specs.HubWords.{second_place}
use Rattle.fault_wiring_slips.specs.LineSlips.{line_slip, line_span}
use Rattle.fault_wiring_slips.specs.declared.line.LineSlip.{LineSlip}
use Rattle.fault_wiring_slips.specs.declared.line.LineSlip.TheVariants as line
use Rattle.fault_wiring_words.specs.Forms.{form_words, jack_words, near_jack, near_word}
use Rattle.fault_wiring_words.specs.HubWords.{around, hub_cure, hub_wrong, six}
use Rattle.fault_wiring_words.specs.declared.wording.TheConstants as wording

-- what is wrong by a byte that no line has
abbrev pub byte_words : Slip → List ℕ
byte_words slip.Tab = tab_words
byte_words slip.Comment = wording.NO_COMMENTS.now
byte_words slip.Quotation = wording.NO_QUOTATION_MARKS.now
byte_words slip.Unclosed = wording.NO_APOSTROPHES.now
byte_words slip.Small = wording.ONLY_CAPITAL_LETTERS.now
byte_words slip.Unprintable = wording.THIS_CHARACTER_STANDS_ON_NO_LINE.now
byte_words slip.Other = wording.THIS_IS_NO_LINE.now

-- a word with which no line begins
unfoldable pub no_word : List ℕ → List ℕ
no_word first = around wording.NO_LINE_BEGINS_WITH.now first []

-- a word behind which others are wanting
unfoldable pub alone_words : List ℕ → List ℕ
alone_words first = around wording.NOTHING_STANDS_BEHIND.now first []

-- what is wrong with a line
unfoldable pub line_wrong : LineSlip → List ℕ → List ℕ
line_wrong (line.Bytes bytes) text = byte_words bytes
line_wrong line.TooFew text = wording.WIRE_TAKES_TWO_HUBS.now
line_wrong line.TwoInOne text = wording.TWO_HUBS_STAND_IN_ONE_WORD.now
line_wrong (line.TooMany place) text = wording.A_WORD_TOO_MANY_STANDS_HERE.now
line_wrong (line.NoExit what) text = hub_wrong what (word 1 text)
line_wrong (line.NoEntry what) text = hub_wrong what (word 2 text)
line_wrong line.WiredCarry text = wording.A_CARRY_HAS_A_LINE_OF_ITS_OWN.now
line_wrong line.Channel text = wording.THE_CHANNEL_OF_A_STOP_IS.now
line_wrong line.StopLine text = wording.A_STOP_STANDS_AT_A_LINE.now
line_wrong line.NoJack text = around wording.THE_PANEL_HAS_NO_JACK.now (word 1 text) []
line_wrong line.JackNumber text = wording.THE_PANEL_HAS_NO_SUCH_JACK.now
line_wrong line.Alone text = alone_words (word 0 text)
line_wrong line.NewWord text = around [] (word 0 text) wording.IS_A_WORD_OF_VERSION_2.now
line_wrong line.Carry text = wording.NOT_THE_NUMBERS_OF_A_CARRY.now
line_wrong line.SecondForm text = wording.FORM_STANDS_ON_LINE_2_ALONE.now
line_wrong line.EndMore text = wording.SOMETHING_STANDS_BEHIND_END.now
line_wrong line.NoWord text = no_word (word 0 text)

-- what helps by a byte that no line has: the form of the line's first word, but for a tab a space
abbrev pub byte_cure : Slip → List ℕ → List ℕ
byte_cure slip.Tab first = tab_cure
byte_cure what first = form_words first

-- two hubs of which a wire may be meant
unfoldable pub meant_wire : List ℕ → List ℕ → List ℕ
meant_wire exit entry = six wording.DID_YOU_MEAN_WIRE.now exit (codes " ") entry (codes "?") []

-- the two hubs of a word
unfoldable pub two_words : List ℕ → List ℕ
two_words hubs = meant_wire (take (second_place hubs) hubs) (drop (second_place hubs) hubs)

-- what helps
unfoldable pub line_cure : LineSlip → List ℕ → List ℕ
line_cure (line.Bytes bytes) text = byte_cure bytes (word 0 text)
line_cure line.TooFew text = form_words (word 0 text)
line_cure line.TwoInOne text = two_words (word 1 text)
line_cure (line.TooMany place) text = form_words (word 0 text)
line_cure (line.NoExit what) text = hub_cure what (word 1 text)
line_cure (line.NoEntry what) text = hub_cure what (word 2 text)
line_cure line.WiredCarry text =
    wording.WRITE_RING_OR_COUPLE.now
line_cure line.Channel text = form_words (word 0 text)
line_cure line.StopLine text = form_words (word 0 text)
line_cure line.NoJack text = near_jack (word 1 text)
line_cure line.JackNumber text = jack_words (word 1 text)
line_cure line.Alone text = form_words (word 0 text)
line_cure line.NewWord text = wording.WRITE_VERSION_2.now
line_cure line.Carry text = form_words (word 0 text)
line_cure line.SecondForm text = wording.TAKE_IT_OUT_OR_CORRECT_LINE_2.now
line_cure line.EndMore text = form_words (word 0 text)
line_cure line.NoWord text = near_word (word 0 text)

-- what is told of a line by its slip
unfoldable pub slip_told : LineSlip → List ℕ → List ℕ
slip_told what text = shown text (line_span what text) ++ below (line_wrong what text) ++ below (line_cure what text)

-- what is told of a line with a number, in version 2 of the language or not
unfoldable pub misplaced_told : Bool → Option ℕ → ℕ → List ℕ → List ℕ
misplaced_told is_second None number text = slip_told (line_slip is_second text) text
misplaced_told is_second (Some end) number text =
    if nat_lt end number then behind_told end text else slip_told (line_slip is_second text) text
