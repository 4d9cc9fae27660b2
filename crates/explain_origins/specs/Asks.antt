-- What the carriage is asked for by wires straight from the exit that emits at the control point of a cycle. What comes to it through contacts
-- no word tells, and by a wire nothing is told that could be overruled so.
use Rattle.std.specs.Prelude.{ℕ, zero, suc, ◌==◌, ◌&&◌, ◌||◌, nat_le, nat_lt, not, Bool, false, List, [], ◌++◌, Option, Some, None, codes, decimal, if◌then◌else◌}
use Rattle.hubs.specs.declared.hub.Hub.{Hub}
use Rattle.hubs.specs.declared.hub.Hub.TheVariants.{CC, HX, PX, RS, SK, SP}
use Rattle.machine.specs.Below.carriage.Moves.{next_stop}
use Rattle.net.specs.Cycles.{level_number, ordinal_number}
use Rattle.net.specs.declared.cycle.Cycle.{Cycle}
use Rattle.net.specs.declared.cycle.Cycle.TheVariants.{RunIn, Card, Prog, Head}
use Rattle.net.specs.declared.cycle.Ordinal.TheVariants.{First, Second, Third}
use Rattle.hubs.specs.SetupsWords.Tapes.{CarriageTape}
use Rattle.hubs.specs.SetupsWords.Wiring.{Wiring, is_wired}
use Rattle.explain_origins.specs.Levels.{others_lead}

-- a wire leads to an entry from the exit of a cycle
abbrev pub asks : Wiring → Cycle → Hub → Bool
asks wiring RunIn entry = false
asks wiring Card entry = is_wired wiring CC entry
asks wiring (Prog level ordinal) entry = is_wired wiring (PX (level_number level) (ordinal_number ordinal)) entry
asks wiring (Head heading) entry = is_wired wiring (HX (ordinal_number heading)) entry

-- Wires lead to an entry from no contact: from none of the exits 161 to 1024. Before them are the brushes, which send nothing at the control
-- point, and behind them the exits of cycles.
unfoldable pub is_of_cycles : Wiring → Hub → Bool
is_of_cycles wiring entry = not (others_lead wiring entry 864)

-- that exit
abbrev pub source_text : Cycle → List ℕ
source_text RunIn = []
source_text Card = codes "CC"
source_text (Prog level ordinal) = codes "PX." ++ decimal (level_number level) ++ codes "." ++ decimal (ordinal_number ordinal)
source_text (Head heading) = codes "HX." ++ decimal (ordinal_number heading)

-- the wire from it to an entry
abbrev pub wire_words : Cycle → (name : List ℕ) → List ℕ
wire_words cycle name = codes " by " ++ source_text cycle ++ codes " -> " ++ name

-- The lines of the spacing that a cycle asks for, if it isn't single. Triple spacing rules over double spacing, which is told only if no
-- contact can ask for the other.
abbrev pub spacing_of : Wiring → Cycle → Option ℕ
spacing_of wiring cycle =
    if asks wiring cycle (SP 3)
    then Some 3
    else if asks wiring cycle (SP 2) && is_of_cycles wiring (SP 3) then Some 2 else None

-- its name
abbrev pub spacing_name : ℕ → List ℕ
spacing_name lines = if lines == 3 then codes "triple" else codes "double"

abbrev pub spacing_by : Cycle → Option ℕ → List ℕ
spacing_by cycle None = []
spacing_by cycle (Some lines) =
    codes ", " ++ spacing_name lines ++ codes " spacing" ++ wire_words cycle (codes "SP.") ++ decimal lines

abbrev pub wide_words : Wiring → Cycle → List ℕ
wide_words wiring cycle = spacing_by cycle (spacing_of wiring cycle)

-- the first heading cycle begins a page and doesn't space
abbrev pub spacing_words : Wiring → Cycle → List ℕ
spacing_words wiring RunIn = wide_words wiring RunIn
spacing_words wiring Card = wide_words wiring Card
spacing_words wiring (Prog level ordinal) = wide_words wiring (Prog level ordinal)
spacing_words wiring (Head First) = []
spacing_words wiring (Head Second) = wide_words wiring (Head Second)
spacing_words wiring (Head Third) = wide_words wiring (Head Third)

-- the lowest of so many channels, from one on, to which a cycle asks to skip: none if a contact can ask for a lower one
abbrev pub channel_from : Wiring → Cycle → (channel others : ℕ) → Option ℕ
channel_from wiring cycle channel zero = None
channel_from wiring cycle channel (suc others) =
    if asks wiring cycle (SK channel)
    then Some channel
    else if is_of_cycles wiring (SK channel) then channel_from wiring cycle (suc channel) others else None

-- the channel of the skip that a cycle asks for behind its line
abbrev pub channel_of : Wiring → Cycle → Option ℕ
channel_of wiring cycle = channel_from wiring cycle 1 12

-- the stop to which a skip from a line goes, if the form has one below the line
abbrev pub stop_words : Option ℕ → List ℕ
stop_words None = codes ", a skip that finds no stop"
stop_words (Some stop) = codes ", a skip to line " ++ decimal stop

abbrev pub skip_to : CarriageTape → Cycle → (line : ℕ) → Option ℕ → List ℕ
skip_to form cycle line None = []
skip_to form cycle line (Some channel) = stop_words (next_stop form channel line) ++ wire_words cycle (codes "SK." ++ decimal channel)

-- the skip that a cycle asks for behind its line
abbrev pub skip_words : Wiring → Cycle → (line : ℕ) → List ℕ
skip_words wiring cycle line = skip_to wiring.tape cycle line (channel_of wiring cycle)

-- where the form comes by such a skip: without one, and without a stop, it stays
abbrev pub stop_or : (line : ℕ) → Option ℕ → ℕ
stop_or line None = line
stop_or line (Some stop) = stop

abbrev pub skip_end : CarriageTape → (line : ℕ) → Option ℕ → ℕ
skip_end form line None = line
skip_end form line (Some channel) = stop_or line (next_stop form channel line)

-- The form came to the overflow line on the way to a line of a page: no page begins below the first line.
abbrev pub has_overflowed : CarriageTape → (line : ℕ) → Bool
has_overflowed form line = nat_le form.overflow line && (nat_lt form.first form.overflow || nat_lt line form.first)

-- or it comes there from that line on
abbrev pub overflows_to : CarriageTape → (line end : ℕ) → Bool
overflows_to form line end = nat_lt line form.overflow && nat_le form.overflow end

abbrev pub overflow_by : CarriageTape → (line end : ℕ) → List ℕ
overflow_by form line end =
    if has_overflowed form line || overflows_to form line end then codes ", overflow at line " ++ decimal form.overflow else []

-- the overflow at the line of a cycle or in the skip behind it
abbrev pub overflow_words : Wiring → Cycle → (line : ℕ) → List ℕ
overflow_words wiring cycle line = overflow_by wiring.tape line (skip_end wiring.tape line (channel_of wiring cycle))

-- the new page that a cycle asks for
abbrev pub page_words : Wiring → Cycle → List ℕ
page_words wiring cycle = if asks wiring cycle RS then codes ", a new page" ++ wire_words cycle (codes "RS") else []
