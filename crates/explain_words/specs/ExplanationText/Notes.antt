-- The notes on a way: what its exit stands for, and why each contact on it was closed. They are told by what is kept of the points of the
-- cycle.
use Rattle.std.specs.Prelude.{ℕ, ◌+◌, ◌-◌, ◌==◌, ◌||◌, List, [], ◌∷◌, ◌++◌, codes, decimal, if◌then◌else◌}
use Rattle.std.specs.List.{flat_map, range_with_len}
use Rattle.hubs.specs.HubText.{group_text, hub_text}
use Rattle.hubs.specs.declared.hub.Group.{Group}
use Rattle.hubs.specs.declared.hub.Hub.{Hub}
use Rattle.hubs.specs.declared.hub.Hub.TheVariants.{FR, SR, GX, BAN, BAT, PIN, PIT, SX, IX, CSD, CSZ, EM}
use Rattle.machine.specs.Kept.{kept_at}
use Rattle.machine.specs.declared.kept.KeptPoint.{KeptPoint}
use Rattle.net.specs.Cycles.{level_number}
use Rattle.net.specs.HubSets.{has_hub}
use Rattle.net.specs.declared.cycle.Cycle.{Cycle}
use Rattle.net.specs.declared.cycle.Cycle.TheVariants.{RunIn, Card, Prog, Head}
use Rattle.net.specs.declared.cycle.Ordinal.{Ordinal}
use Rattle.net.specs.declared.cycle.Ordinal.TheVariants.{First, Second, Third}
use Rattle.explain_words.specs.ExplanationText.Text.{is_contact_exit, row_at, row_line}

-- a line of words, which two spaces set off
abbrev pub note_line : List ℕ → List ℕ
note_line words = codes "  " ++ words ++ codes "\n"

-- a punch or a digit with its article
abbrev pub article : ℕ → List ℕ
article row = if (row == 8) || (row == 11) then codes "an " else codes "a "

abbrev pub counted : ℕ → List ℕ
counted row = article row ++ decimal row

-- a cycle in words
abbrev pub ordinal_word : Ordinal → List ℕ
ordinal_word First = codes "the first"
ordinal_word Second = codes "the second"
ordinal_word Third = codes "the third"

abbrev pub cycle_words : Cycle → List ℕ
cycle_words RunIn = codes "the run-in"
cycle_words Card = codes "card cycles"
cycle_words (Prog level ordinal) = ordinal_word ordinal ++ codes " cycle of level " ++ decimal (level_number level)
cycle_words (Head heading) = ordinal_word heading ++ codes " heading cycle"

-- a column of a card is punched in a row
abbrev pub punch_words : ℕ → ℕ → ℕ → List ℕ
punch_words column card row =
    codes ": column " ++ decimal column ++ codes " of card " ++ decimal card ++ codes " has " ++ counted row

-- an emitter sends a row
abbrev pub emitter_words : ℕ → ℕ → Cycle → List ℕ
emitter_words emitter row cycle =
    codes ": emitter " ++ decimal emitter ++ codes " sends row " ++ decimal row ++ codes " in " ++ cycle_words cycle

-- a storage unit is read out, and holds a row in a column
abbrev pub stored_words : ℕ → ℕ → ℕ → List ℕ
stored_words unit column row =
    codes ": storage " ++ decimal unit ++ codes " holds " ++ counted row ++ codes " in column " ++ decimal column
    ++ codes ", and is read out"

-- the digit of a counter position that is read out: the first of some rows at which its exit emitted; none where it emitted at none of them
abbrev pub digit_in : List KeptPoint → Hub → List ℕ → List ℕ
digit_in points exit [] = []
digit_in points exit (place ∷ places) =
    if has_hub (kept_at points (place + 1)).exits exit then decimal (row_at place) else digit_in points exit places

-- the digit is looked for at the rows 9 to 0
unfoldable pub digit_text : List KeptPoint → Hub → List ℕ
digit_text points exit = digit_in points exit (range_with_len 0 10)

-- the digits of a counter group that is read out, the top one first: so far down from the top is each of them
abbrev pub digit_down : List KeptPoint → Group → ℕ → List ℕ
digit_down points group down = digit_text points (GX group (group.width - down))

abbrev pub held_text : List KeptPoint → Group → List ℕ
held_text points group = flat_map (digit_down points group) (range_with_len 0 group.width)

-- a counter group is read out
abbrev pub read_out_words : List KeptPoint → Group → List ℕ
read_out_words points group =
    codes ": group " ++ group_text group ++ codes " held " ++ held_text points group ++ codes ", and is read out"

-- What an exit that emitted at a row stands for, in the cycle of a card.
abbrev pub exit_words : (card : ℕ) → Cycle → List KeptPoint → (row : ℕ) → Hub → List ℕ
exit_words card cycle points row (SR column) = punch_words column card row
exit_words card cycle points row (FR column) = punch_words column (card + 1) row
exit_words card cycle points row (EM emitter own) = emitter_words emitter row cycle
exit_words card cycle points row (GX group position) = read_out_words points group
exit_words card cycle points row (SX unit column) = stored_words unit column row
exit_words card cycle points row exit = []

-- Why the contact that leads to an exit was closed. That of a carry exit is closed at no row.
abbrev pub reason_words : Hub → List ℕ
reason_words (BAT group position) = codes ": the balance latch of group " ++ group_text group ++ codes " is set"
reason_words (BAN group position) = codes ": the balance latch of group " ++ group_text group ++ codes " is not set"
reason_words (PIT pilot position) = codes ": pilot " ++ decimal pilot ++ codes " is transferred"
reason_words (PIN pilot position) = codes ": pilot " ++ decimal pilot ++ codes " is normal"
reason_words (IX level position) = codes ": the card is the first of a group of level " ++ decimal level
reason_words (CSD split) = codes ": split " ++ decimal split ++ codes " leads there at the rows 9 to 0"
reason_words (CSZ split) = codes ": split " ++ decimal split ++ codes " leads there at the rows 11 and 12"
reason_words exit = []

-- the note on an exit that emitted at the row of a place, and the one on the contact from a hub to an exit
abbrev pub exit_note : (card : ℕ) → Cycle → List KeptPoint → (place : ℕ) → Hub → List ℕ
exit_note card cycle points place exit = note_line (hub_text exit ++ exit_words card cycle points (row_at place) exit)

abbrev pub contact_note : Hub → Hub → List ℕ
contact_note common exit = note_line (hub_text common ++ codes " => " ++ hub_text exit ++ reason_words exit)

-- what is noted of the step from one hub to the next: a contact; of a wire nothing is
abbrev pub step_note : Hub → Hub → List ℕ
step_note common next = if is_contact_exit next then contact_note common next else []

-- the notes on the steps from a hub to others, one after another
abbrev pub step_notes : Hub → List Hub → List ℕ
step_notes hub [] = []
step_notes hub (next ∷ others) = step_note hub next ++ step_notes next others

-- the notes on a way to the row of a place, in the cycle of a card
abbrev pub notes : (card : ℕ) → Cycle → List KeptPoint → (place : ℕ) → List Hub → List ℕ
notes card cycle points place [] = []
notes card cycle points place (exit ∷ others) = exit_note card cycle points place exit ++ step_notes exit others

-- The lines of a way to the row of a place: the way, and its notes.
abbrev pub way_lines : (card : ℕ) → Cycle → List KeptPoint → (place : ℕ) → List Hub → List ℕ
way_lines card cycle points place way = row_line place way ++ notes card cycle points place way
