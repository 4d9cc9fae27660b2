-- Moves of the form. The carriage goes down line by line, so that the overflow line is noticed on the way: coming to it
-- sets the restore latch. A skip goes to the next stop of its channel below the line; where the form has none, it stays
-- and sets the latch.
use Rattle.std.specs.Prelude.{ℕ, zero, suc, ◌+◌, ◌-◌, ◌^◌, ◌==◌, ◌||◌, nat_lt, Bool, true, false, Option, Some, None, if◌then◌else◌}
use Rattle.hubs.specs.SetupsWords.Tapes.{CarriageTape, has_stop}
use Rattle.carriage.specs.declared.spot.Spot.{Spot}

-- the page after this one; a page number that would pass 2^32 stays
abbrev pub next_page : ℕ → ℕ
next_page page = if nat_lt page (2 ^ 32) then page + 1 else page

-- the spot on coming to a line of a page: the overflow line sets the latch
abbrev pub come_to : CarriageTape → ℕ → ℕ → Bool → Spot
come_to form page line latch = record { page = page; line = line; latch = latch || (line == form.overflow) }

-- down by one line, from the last line of the form to line 1 of the next page
abbrev pub down : CarriageTape → Spot → Spot
down form spot =
    if nat_lt spot.line form.lines
    then come_to form spot.page (spot.line + 1) spot.latch
    else come_to form (next_page spot.page) 1 spot.latch

-- down by so many lines, one after another
abbrev pub down_by : CarriageTape → ℕ → Spot → Spot
down_by form zero spot = spot
down_by form (suc lines) spot = down form (down_by form lines spot)

-- whether a channel has a stop at a line: channel 1 at the first line, channel 12 at the overflow line
abbrev pub is_stop_of : CarriageTape → ℕ → ℕ → Bool
is_stop_of form channel line =
    if channel == 1 then line == form.first else if channel == 12 then line == form.overflow else has_stop form channel line

-- the first stop of a channel among so many lines, from the given one on
abbrev pub stop_from : CarriageTape → ℕ → ℕ → ℕ → Option ℕ
stop_from form channel line zero = None
stop_from form channel line (suc others) =
    if is_stop_of form channel line then Some line else stop_from form channel (suc line) others

-- the next stop of a channel on this form, below a line
abbrev pub next_stop : CarriageTape → ℕ → ℕ → Option ℕ
next_stop form channel line = stop_from form channel (suc line) (form.lines - line)

-- the first heading cycle begins a page: the form's first line, with the latch reset
abbrev pub at_first_line : CarriageTape → Spot → Spot
at_first_line form spot = record { page = next_page spot.page; line = form.first; latch = false }

-- the spot with the latch set
abbrev pub latched : Spot → Spot
latched spot = record { page = spot.page; line = spot.line; latch = true }

-- a skip down to a stop; without one the carriage stays and the latch is set
abbrev pub skipped_to : CarriageTape → Option ℕ → Spot → Spot
skipped_to form None spot = latched spot
skipped_to form (Some stop) spot = down_by form (stop - spot.line) spot

-- a skip to the channel that is asked for, if one is
abbrev pub skipped : CarriageTape → Option ℕ → Spot → Spot
skipped form None spot = spot
skipped form (Some channel) spot = skipped_to form (next_stop form channel spot.line) spot

-- a restore sets the latch
abbrev pub restored : Bool → Spot → Spot
restored restore spot = if restore then latched spot else spot
