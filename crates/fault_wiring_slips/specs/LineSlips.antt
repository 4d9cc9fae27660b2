-- What is wrong with a line that is none of a wiring chart, as far as the line tells it. Words are counted from 0.
use Rattle.std.specs.Prelude.{◌≡◌, ℕ, ◌==◌, ◌&&◌, ◌||◌, Bool, true, false, not, List, [], Option, Some, None, is_some, codes, nat_le, if◌then◌else◌}
use Rattle.std.specs.Str.{bytes_eq}
use Rattle.hubs.specs.declared.hub_table.shape.Numbers.{Numbers}
use Rattle.hubs.specs.declared.hub_table.shape.Numbers.TheVariants.{Two}
use Rattle.fault_slips.specs.LineMarks.Spans.{span_of, word}
use Rattle.fault_slips.specs.declared.line_marks.span.Span.{Span}
use Rattle.fault_slips.specs.LineSlips.Slips.{slip_of, slip_span}
use Rattle.fault_slips.specs.declared.line_slips.slip.Slip.{Slip}
use Rattle.fault_slips.specs.declared.line_slips.slip.Slip.TheVariants as slip
use Rattle.chart_lines.specs.TokensWords.NumberReading.{number_of, number_to}
use Rattle.fault_wiring_slips.specs.HubWords.{from_one, hub_word, is_name, is_two}
use Rattle.fault_wiring_slips.specs.declared.hub.HubWord.{HubWord}
use Rattle.fault_wiring_slips.specs.declared.line.LineSlip.{LineSlip}
use Rattle.fault_wiring_slips.specs.declared.line.LineSlip.TheVariants as line

-- whether a line has no such word
abbrev pub lacks : ℕ → List ℕ → Bool
lacks index text = bytes_eq (word index text) []

-- whether the first word of a line is this one
abbrev pub begins_with : List ℕ → List ℕ → Bool
begins_with text first = bytes_eq (word 0 text) first

-- WIRE with one word behind it, or none
unfoldable pub few_slip : List ℕ → LineSlip
few_slip text = if is_two (word 1 text) then line.TwoInOne else line.TooFew

-- WIRE with two words or more: the first that is no hub as it is written, or else a word too many, or a carry in version 2
abbrev pub hubs_slip : HubWord → HubWord → Bool → LineSlip
hubs_slip exit entry is_whole =
    if not (is_name exit) then line.NoExit exit
    else if not (is_name entry) then line.NoEntry entry
    else if is_whole then line.WiredCarry
    else line.TooMany 3

unfoldable pub wire_slip : List ℕ → LineSlip
wire_slip text =
    if lacks 2 text then few_slip text else hubs_slip (hub_word (word 1 text)) (hub_word (word 2 text)) (lacks 3 text)

-- whether a word is a channel that has stops, 2 to 11
abbrev pub is_stop_channel : Option ℕ → Bool
is_stop_channel (Some channel) = nat_le 2 channel
is_stop_channel None = false

unfoldable pub stop_slip : List ℕ → LineSlip
stop_slip text =
    if not (is_stop_channel (number_to 11 (word 1 text))) then line.Channel
    else if not (is_some (number_of (word 2 text))) then line.StopLine
    else line.TooMany 3

-- whether a word is the name of jacks
unfoldable pub is_jack : List ℕ → Bool
is_jack name =
    bytes_eq name (codes "LIST") || (bytes_eq name (codes "TOTAL") || (bytes_eq name (codes "HEAD") || (bytes_eq name (codes "LINK")
    || (bytes_eq name (codes "SUPPRESS") || bytes_eq name (codes "SYMBOL")))))

-- the greatest number of the jacks of a name
unfoldable pub last_jack : List ℕ → ℕ
last_jack name = if bytes_eq name (codes "TOTAL") then 4 else if bytes_eq name (codes "HEAD") then 3 else 120

-- of a name of jacks: a word behind the jack, or its number
unfoldable pub numbered_slip : List ℕ → List ℕ → LineSlip
numbered_slip name number =
    if bytes_eq name (codes "LIST") then line.TooMany 2
    else if is_some (number_to (last_jack name) number) then line.TooMany 3
    else line.JackNumber

unfoldable pub jack_slip : List ℕ → LineSlip
jack_slip text =
    if lacks 1 text then line.Alone
    else if is_jack (word 1 text) then numbered_slip (word 1 text) (word 2 text)
    else line.NoJack

-- whether numbers are two, as those of a counter group
abbrev pub are_two : Option Numbers → Bool
are_two (Some (Two width number)) = true
are_two other = false

-- whether two numbers are different
abbrev pub are_different : Option ℕ → Option ℕ → Bool
are_different (Some one) (Some other) = not (one == other)
are_different one other = false

-- whether the words behind RING or COUPLE begin as those of a carry
abbrev pub is_ring : List ℕ → Bool
is_ring text = are_two (from_one (word 1 text))

abbrev pub is_couple : List ℕ → Bool
is_couple text = are_different (number_of (word 1 text)) (number_of (word 2 text))

-- a word behind the carry, or its numbers
abbrev pub behind_slip : Bool → ℕ → LineSlip
behind_slip is_carry place = if is_carry then line.TooMany place else line.Carry

unfoldable pub carry_words_slip : List ℕ → LineSlip
carry_words_slip text =
    if lacks 1 text then line.Alone
    else if begins_with text (codes "RING") then behind_slip (is_ring text) 2
    else behind_slip (is_couple text) 3

-- what is wrong with the words of a line, in version 2 of the language or not
unfoldable pub word_slip : Bool → List ℕ → LineSlip
word_slip is_second text =
    if begins_with text (codes "WIRE") then wire_slip text
    else if begins_with text (codes "STOP") then stop_slip text
    else if begins_with text (codes "JACK") then jack_slip text
    else if begins_with text (codes "RING") || begins_with text (codes "COUPLE") then (if is_second then carry_words_slip text else line.NewWord)
    else if begins_with text (codes "FORM") then line.SecondForm
    else if begins_with text (codes "END") then line.EndMore
    else line.NoWord

-- bytes that no line of a wiring chart has are told first
abbrev pub byte_slip : Slip → Bool → List ℕ → LineSlip
byte_slip slip.Other is_second text = word_slip is_second text
byte_slip bytes is_second text = line.Bytes bytes

-- what is wrong with a line
unfoldable pub line_slip : Bool → List ℕ → LineSlip
line_slip is_second text = byte_slip (slip_of text) is_second text

-- the place of the word that is marked
abbrev pub slip_place : LineSlip → ℕ
slip_place (line.Bytes bytes) = 0
slip_place line.TooFew = 0
slip_place line.TwoInOne = 1
slip_place (line.TooMany place) = place
slip_place (line.NoExit hub) = 1
slip_place (line.NoEntry hub) = 2
slip_place line.WiredCarry = 1
slip_place line.Channel = 1
slip_place line.StopLine = 2
slip_place line.NoJack = 1
slip_place line.JackNumber = 2
slip_place line.Alone = 0
slip_place line.NewWord = 0
slip_place line.Carry = 1
slip_place line.SecondForm = 0
slip_place line.EndMore = 1
slip_place line.NoWord = 0

-- what is marked: the byte by which the slip is known, or else the word
abbrev pub line_span : LineSlip → List ℕ → Span
line_span (line.Bytes bytes) text = slip_span text
line_span other text = span_of (slip_place other) text
