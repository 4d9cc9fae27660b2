-- What a trace tells of the units in a cycle. Each unit is given as it stands behind the points of the cycle and before its end: then it
-- is known what the unit was asked and what it took, and nothing has turned yet. What the end of the cycle makes of it stands beside it.
use Rattle.std.specs.Prelude.{ℕ, ◌||◌, ◌&&◌, Bool, List, [], ◌++◌, codes, decimal, map, if◌then◌else◌}
use Rattle.std.specs.List.{flat_map, range_with_len}
use Rattle.std.specs.Str.{bytes_eq}
use Rattle.card_code.specs.Rows.{rows}
use Rattle.counters.specs.Counters.{Counter}
use Rattle.counters.specs.declared.controls.Controls.{Controls}
use Rattle.hubs.specs.HubText.{group_text}
use Rattle.explain_ledgers.specs.LedgersWords.LedgerText.Entries.{carry_text}
use Rattle.page_text.specs.Pages.{without_trailing_blanks}
use Rattle.page_text.specs.declared.placed_lines.placed_line.PlacedLine.{PlacedLine}
use Rattle.print_unit.specs.ZeroControl.{character_of}
use Rattle.selectors.specs.Pilots.{PilotStates, is_transferred}
use Rattle.storage_units.specs.Storage.{StorageState, holds}

-- digits from the top down
abbrev pub digits_text : List ℕ → List ℕ
digits_text digits = flat_map decimal digits

-- A counter group is asked something in a cycle: it is under a control, or a carry came in. Any other group stays as it is.
abbrev pub is_asked : Controls → Bool → Bool
is_asked controls carry = controls.plus || controls.minus || controls.read_out || controls.test || carry

-- something is added to a counter group
abbrev pub is_added : Controls → Bool → Bool
is_added controls carry = controls.plus || controls.minus || carry

-- A counter group is turned: it is read out, and what it reads out is subtracted from it. So it comes to stand at its complement.
abbrev pub is_turned : Counter → Bool
is_turned counter = counter.controls.read_out && counter.controls.minus && bytes_eq counter.entered counter.digits

-- what was entered, with its sign: minus rules over plus
abbrev pub entered_text : Controls → List ℕ → List ℕ
entered_text controls entered =
    if controls.minus
    then codes " -" ++ digits_text entered
    else if controls.plus then codes " +" ++ digits_text entered else []

-- the number before, where the group is not read out: it starts from nothing then
abbrev pub before_text : Controls → List ℕ → List ℕ
before_text controls digits = if controls.read_out then [] else codes " " ++ digits_text digits

-- the sum: the number before, what comes to it, and the number behind
abbrev pub sum_text : Counter → Counter → List ℕ
sum_text counter behind =
    if is_added counter.controls counter.carry
    then before_text counter.controls counter.digits
    ++ entered_text counter.controls counter.entered
    ++ carry_text counter.carry
    ++ codes " = "
    ++ digits_text behind.digits
    else []

-- what is read out
abbrev pub read_text : Counter → List ℕ
read_text counter = if counter.controls.read_out then codes " read out " ++ digits_text counter.digits ++ codes ", reset" else []

-- a group that is turned, with the numbers before and behind
abbrev pub turned_text : Counter → Counter → List ℕ
turned_text counter behind = codes " " ++ digits_text counter.digits ++ codes " turned: " ++ digits_text behind.digits

-- how its wheels turn
abbrev pub wheels_text : Counter → Counter → List ℕ
wheels_text counter behind = if is_turned counter then turned_text counter behind else read_text counter ++ sum_text counter behind

-- what balance test makes of the latch
abbrev pub latch_text : Bool → List ℕ
latch_text latch = if latch then codes "set" else codes "reset"

abbrev pub test_text : Counter → Counter → List ℕ
test_text counter behind = if counter.controls.test then codes " test: balance latch " ++ latch_text behind.latch else []

-- A counter group is told where it was asked something.
abbrev pub group_told : Counter → Counter → List ℕ
group_told counter behind =
    if is_asked counter.controls counter.carry
    then codes "   " ++ group_text counter.name ++ wheels_text counter behind ++ test_text counter behind
    else []

-- characters, cut behind the last one that is no blank
abbrev pub bracketed : List ℕ → List ℕ
bracketed text = codes "[" ++ without_trailing_blanks text ++ codes "]"

-- the character that a column of a storage unit holds, as a wheel prints it
abbrev pub column_character : StorageState → ℕ → ℕ
column_character storage column = character_of (map (λ row. holds storage row column) rows)

-- the characters that a storage unit holds
abbrev pub storage_text : StorageState → List ℕ
storage_text storage = map (column_character storage) (range_with_len 1 16)

-- A storage unit is told where it holds other characters behind the cycle.
abbrev pub storage_told : StorageState → StorageState → List ℕ
storage_told storage behind =
    if bytes_eq (storage_text storage) (storage_text behind)
    then []
    else codes "   storage " ++ decimal storage.place ++ codes " " ++ bracketed (storage_text behind)

-- A pilot is told where it stands transferred in the cycle.
abbrev pub pilot_told : PilotStates → ℕ → List ℕ
pilot_told pilots pilot = if is_transferred pilots pilot then codes "   pilot " ++ decimal pilot ++ codes " transferred" else []

abbrev pub pilots_told : PilotStates → List ℕ
pilots_told pilots = flat_map (pilot_told pilots) (range_with_len 1 16)

-- the line that was printed, with its place
abbrev pub line_told : PlacedLine → List ℕ
line_told placed =
    codes "   page " ++ decimal placed.page ++ codes " line " ++ decimal placed.line ++ codes " " ++ bracketed placed.text
