-- The forms of a wiring chart's lines, by their first words.
use Rattle.std.specs.Prelude.{ℕ, List, codes, if◌then◌else◌}
use Rattle.std.specs.Str.{bytes_eq}
use Rattle.fault_slips.specs.LineSlips.Forms.{is_word}
use Rattle.fault_slips.specs.LineSlips.Near.{is_near}
use Rattle.fault_wiring_words.specs.declared.wording.TheConstants as wording

-- the form of a word, in capital or small letters
unfoldable pub form_words : List ℕ → List ℕ
form_words word =
    if is_word word (codes "WIRE") then wording.WIRE_TAKES.now
    else if is_word word (codes "STOP") then wording.STOP_TAKES.now
    else if is_word word (codes "JACK") then wording.JACK_TAKES.now
    else if is_word word (codes "RING") then wording.RING_TAKES.now
    else if is_word word (codes "COUPLE") then wording.COUPLE_TAKES.now
    else if is_word word (codes "FORM") then wording.FORM_TAKES.now
    else if is_word word (codes "END") then wording.END_STANDS_ALONE.now
    else wording.A_LINE_BEGINS_WITH.now

-- the first word of a line that may be meant
unfoldable pub near_word : List ℕ → List ℕ
near_word word =
    if is_near (codes "WIRE") word then wording.MEANT_WIRE.now
    else if is_near (codes "STOP") word then wording.MEANT_STOP.now
    else if is_near (codes "JACK") word then wording.MEANT_JACK.now
    else if is_near (codes "RING") word then wording.MEANT_RING.now
    else if is_near (codes "COUPLE") word then wording.MEANT_COUPLE.now
    else if is_near (codes "END") word then wording.MEANT_END.now
    else form_words word

-- the name of jacks that may be meant
unfoldable pub near_jack : List ℕ → List ℕ
near_jack name =
    if is_near (codes "LIST") name then wording.MEANT_LIST.now
    else if is_near (codes "TOTAL") name then wording.MEANT_TOTAL.now
    else if is_near (codes "HEAD") name then wording.MEANT_HEAD.now
    else if is_near (codes "LINK") name then wording.MEANT_LINK.now
    else if is_near (codes "SUPPRESS") name then wording.MEANT_SUPPRESS.now
    else if is_near (codes "SYMBOL") name then wording.MEANT_SYMBOL.now
    else wording.THE_JACKS_ARE.now

-- the number that a jack takes
unfoldable pub jack_words : List ℕ → List ℕ
jack_words name =
    if bytes_eq name (codes "TOTAL") then wording.JACK_TOTAL_TAKES.now
    else if bytes_eq name (codes "HEAD") then wording.JACK_HEAD_TAKES.now
    else wording.WHEEL_JACKS_TAKE.now
