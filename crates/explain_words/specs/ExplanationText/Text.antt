-- The first lines of an explanation, which tell the place, the character and the cycle, and the line of a way.
use Rattle.std.specs.Prelude.{ℕ, ◌+◌, ◌-◌, ◌==◌, Bool, true, false, List, [], ◌∷◌, ◌++◌, codes, decimal, if◌then◌else◌, nat_lt}
use Rattle.std.specs.List.{flat_map}
use Rattle.hubs.specs.HubText.{hub_text}
use Rattle.hubs.specs.declared.hub.Hub.{Hub}
use Rattle.hubs.specs.declared.hub.Hub.TheVariants.{CO, BAN, BAT, PIN, PIT, IX, CSD, CSZ}
use Rattle.net.specs.Cycles.{level_number, ordinal_number}
use Rattle.net.specs.declared.cycle.Cycle.{Cycle}
use Rattle.net.specs.declared.cycle.Cycle.TheVariants.{RunIn, Card, Prog, Head}
use Rattle.explain_wheels.specs.declared.explanations.explanation.Explanation.{Explanation}

-- whether a hub is the exit of a contact: then the contact leads to it, and no wire
abbrev pub is_contact_exit : Hub → Bool
is_contact_exit (CO group) = true
is_contact_exit (BAN group position) = true
is_contact_exit (BAT group position) = true
is_contact_exit (PIN pilot position) = true
is_contact_exit (PIT pilot position) = true
is_contact_exit (IX level position) = true
is_contact_exit (CSD split) = true
is_contact_exit (CSZ split) = true
is_contact_exit hub = false

-- a hub behind another one of a way, and what leads to it
abbrev pub led_text : Hub → List ℕ
led_text hub = (if is_contact_exit hub then codes " => " else codes " -> ") ++ hub_text hub

-- a way, hub by hub
abbrev pub way_text : List Hub → List ℕ
way_text [] = []
way_text (exit ∷ others) = codes " " ++ hub_text exit ++ flat_map led_text others

-- the number of a row by its place in the order of the points: 9 to 0, 11, 12
abbrev pub row_at : ℕ → ℕ
row_at place = if nat_lt place 10 then 9 - place else place + 1

-- the line of a row
abbrev pub row_line : ℕ → List Hub → List ℕ
row_line place way = codes "row " ++ decimal (row_at place) ++ codes ":" ++ way_text way ++ codes "\n"

-- a character, a word for the blank
abbrev pub character_text : ℕ → List ℕ
character_text character =
    if character == 32 then codes "blank" else if nat_lt character 128 then character ∷ [] else codes "?"

-- the first line
abbrev pub page_line : Explanation → List ℕ
page_line told =
    codes "page " ++ decimal told.line.page ++ codes " line " ++ decimal told.line.line ++ codes " wheel " ++ decimal told.wheel
    ++ codes " prints " ++ character_text told.character ++ codes "\n"

-- a program cycle of a level, behind a card, and a heading cycle: before a card, or behind it and before its totals
abbrev pub level_text : ℕ → List ℕ
level_text level = codes "cycle Prog " ++ decimal level

abbrev pub spaced_text : ℕ → List ℕ
spaced_text number = codes " " ++ decimal number

abbrev pub after_text : ℕ → List ℕ
after_text cards = codes " after card " ++ decimal cards ++ codes "\n"

abbrev pub program_line : ℕ → ℕ → ℕ → List ℕ
program_line level ordinal cards = level_text level ++ spaced_text ordinal ++ after_text cards

abbrev pub headed_text : Bool → List ℕ
headed_text waits = if waits then codes " before card " else codes " before the totals of card "

abbrev pub heading_line : ℕ → Bool → ℕ → List ℕ
heading_line heading waits cards = codes "cycle Head " ++ decimal heading ++ headed_text waits ++ decimal cards ++ codes "\n"

-- The second line: the cycle, and its card, counted from 1. Where the card's own cycle is still to come, it waits.
abbrev pub cycle_line : Cycle → (waits : Bool) → (cards : ℕ) → List ℕ
cycle_line RunIn waits cards = codes "cycle RunIn\n"
cycle_line Card waits cards = codes "cycle Card " ++ decimal cards ++ codes "\n"
cycle_line (Prog level ordinal) waits cards = program_line (level_number level) (ordinal_number ordinal) cards
cycle_line (Head heading) waits cards = heading_line (ordinal_number heading) waits cards
