-- Links to what has an element on the page of a run: cards and cycles, by their numbers from 1.
use Rattle.std.specs.Prelude.{ℕ, ◌&&◌, Bool, List, ◌++◌, codes, decimal, if◌then◌else◌, nat_le}
use Rattle.show_links.specs.declared.shown.Shown.{Shown}

-- the name of a row of a sheet
abbrev pub row_name : (page line : ℕ) → List ℕ
row_name page line = codes "p" ++ decimal page ++ codes "l" ++ decimal line

-- whether the one with a number has an element
abbrev pub is_shown : Shown → ℕ → Bool
is_shown shown number = nat_le shown.first number && nat_le number shown.last

-- a link to a card, up to its words
unfoldable pub card_open : ℕ → List ℕ
card_open card = codes "<a href=\"#card" ++ decimal card ++ codes "\">"

-- what a card is called
unfoldable pub card_name : ℕ → List ℕ
card_name card = codes "card " ++ decimal card

-- a link to a card, by its name
unfoldable pub card_link : ℕ → List ℕ
card_link card = card_open card ++ card_name card ++ codes "</a>"

-- the name of a card, as a link if it has an element
abbrev pub card_word : Shown → ℕ → List ℕ
card_word shown card = if is_shown shown card then card_link card else card_name card

-- a link to a cycle, up to its words
unfoldable pub cycle_open : ℕ → List ℕ
cycle_open cycle = codes "<a href=\"#cycle" ++ decimal cycle ++ codes "\">"

-- what a cycle is called
unfoldable pub cycle_name : ℕ → List ℕ
cycle_name cycle = codes "cycle " ++ decimal cycle

-- a link to a cycle, by its name
unfoldable pub cycle_link : ℕ → List ℕ
cycle_link cycle = cycle_open cycle ++ cycle_name cycle ++ codes "</a>"

-- the name of a cycle, as a link if it has an element
abbrev pub cycle_word : Shown → ℕ → List ℕ
cycle_word shown cycle = if is_shown shown cycle then cycle_link cycle else cycle_name cycle
