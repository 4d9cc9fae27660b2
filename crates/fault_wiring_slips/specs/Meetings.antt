-- Lines that another line meets: a line that says the same, and one whose carry doesn't agree with its own.
use Rattle.std.specs.Prelude.{◌≡◌, ℕ, ◌-◌, ◌&&◌, Bool, false, not, List, [], ◌∷◌, Option, Some, None, codes, if◌then◌else◌}
use Rattle.std.specs.Str.{bytes_eq}
use Rattle.hubs.specs.Carries.{do_carries_agree}
use Rattle.hubs.specs.declared.hub.Group.{Group}
use Rattle.fault_slips.specs.LineMarks.Spans.{word}
use Rattle.fault_wiring_slips.specs.HubWords.{letters_in, tail_of}
use Rattle.fault_wiring_slips.specs.LineSlips.{begins_with}
use Rattle.fault_wiring_slips.specs.declared.meeting.CarryWire.{CarryWire}
use Rattle.fault_wiring_slips.specs.declared.meeting.Meeting.{Meeting}
use Rattle.fault_wiring_slips.specs.declared.meeting.Meeting.TheVariants as meeting

-- the counter group of two digits, its width and its number
abbrev pub group_of_digits : ℕ → ℕ → Group
group_of_digits width number = record { width = width - 48; number = number - 48 }

-- the group behind the letters of a hub: a point, its width, a point and its number
abbrev pub hub_group : List ℕ → Option Group
hub_group (point ∷ width ∷ next ∷ number ∷ []) = Some (group_of_digits width number)
hub_group tail = None

-- the group of a ring: its width, a point and its number
abbrev pub ring_group : List ℕ → Option Group
ring_group (width ∷ point ∷ number ∷ []) = Some (group_of_digits width number)
ring_group group = None

-- a group of a couple: the number of one of 8 positions
abbrev pub couple_group : List ℕ → Option Group
couple_group (number ∷ []) = Some (group_of_digits 56 number)
couple_group group = None

-- the group of a carry exit or entry, by the letters of these
abbrev pub carry_group : List ℕ → List ℕ → Option Group
carry_group letters hub = if bytes_eq (letters_in hub) letters then hub_group (tail_of hub) else None

-- the carry wire between two groups
abbrev pub carry_between : Option Group → Option Group → Option CarryWire
carry_between (Some from) (Some to) = Some (record { from = from; to = to })
carry_between from to = None

-- the carry that a line wires
unfoldable pub carry_of : List ℕ → Option CarryWire
carry_of text =
    if begins_with text (codes "WIRE") then carry_between (carry_group (codes "CO") (word 1 text)) (carry_group (codes "CI") (word 2 text))
    else if begins_with text (codes "RING") then carry_between (ring_group (word 1 text)) (ring_group (word 1 text))
    else if begins_with text (codes "COUPLE") then carry_between (couple_group (word 1 text)) (couple_group (word 2 text))
    else None

-- whether two carries can't be there together
abbrev pub are_apart : Option CarryWire → Option CarryWire → Bool
are_apart (Some one) (Some other) = not (do_carries_agree one.from one.to other.from other.to)
are_apart one other = false

-- whether two lines have the same words: their forms have no more than three
unfoldable pub says_same : List ℕ → List ℕ → Bool
says_same one other =
    bytes_eq (word 0 one) (word 0 other) && (bytes_eq (word 1 one) (word 1 other) && bytes_eq (word 2 one) (word 2 other))

-- whether a line meets another one
abbrev pub meets : Meeting → List ℕ → List ℕ → Bool
meets meeting.Same text other = says_same text other
meets meeting.Carry text other = are_apart (carry_of text) (carry_of other)
