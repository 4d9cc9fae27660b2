-- In which cycles of a run a card stood at the two reading stations, by the part of the run's trace that is shown: it has a line for each
-- cycle, of which the first letter tells the kind. The card cycles of this part are those of the cards that are shown, from the first one on.
use Rattle.std.specs.Prelude.{ℕ, ◌+◌, ◌-◌, ◌==◌, ◌&&◌, Bool, false, List, [], ◌∷◌, ◌++◌, codes, if◌then◌else◌}
use Rattle.card_code.specs.Lines.{lines_of}
use Rattle.show_links.specs.Links.{cycle_word}
use Rattle.show_links.specs.declared.shown.Shown.{Shown}
use Rattle.show_links.specs.declared.shown.ShownRun.{ShownRun}
use Rattle.show_sums.specs.SumSections.Into.{card_sums}
use Rattle.show_sums.specs.declared.sum_sections.sums.PageSum.{PageSum}

-- whether a line begins with a letter
abbrev pub begins_with : ℕ → List ℕ → Bool
begins_with letter [] = false
begins_with letter (first ∷ others) = first == letter

-- how many lines with a letter are left to pass, behind a line that has it or not
abbrev pub left_behind : Bool → ℕ → ℕ
left_behind has_it left = if has_it then left - 1 else left

-- The number of the first, the second, the third line that begins with a letter, and so on; 0 where there are not so many. The first line
-- has this number.
abbrev pub nth_line : (letter nth number : ℕ) → List (List ℕ) → ℕ
nth_line letter nth number [] = 0
nth_line letter nth number (line ∷ lines) =
    if begins_with letter line && nth == 1 then number
    else nth_line letter (left_behind (begins_with letter line) nth) (number + 1) lines

-- A card stands at second reading in its own card cycle, of which the line begins with a C: the first card that is shown in the first one, the
-- third in the third one. It stands at first reading in that of the card before it, and card 1 in the run-in, of which the line begins with an
-- R. So where the cards that are shown begin later, the cycle in which the first of them stood at first reading isn't shown.
unfoldable pub second_reading : ShownRun → (card : ℕ) → (trace : List ℕ) → ℕ
second_reading shown card trace = nth_line 67 (card + 1 - shown.cards.first) shown.cycles.first (lines_of trace)

unfoldable pub first_reading : ShownRun → (card : ℕ) → (trace : List ℕ) → ℕ
first_reading shown card trace =
    if card == 1 then nth_line 82 1 shown.cycles.first (lines_of trace)
    else nth_line 67 (card - shown.cards.first) shown.cycles.first (lines_of trace)

-- a cycle, as a link if it is shown; 0 is one that isn't shown
abbrev pub cycle_text : Shown → (cycle : ℕ) → List ℕ
cycle_text shown cycle = if cycle == 0 then codes "a cycle that isn't shown" else cycle_word shown cycle

-- both cycles of a card
unfoldable pub first_open : List ℕ
first_open = codes "<p>The card stood at first reading in "

unfoldable pub first_text : Shown → (first : ℕ) → List ℕ
first_text shown first = first_open ++ cycle_text shown first

unfoldable pub second_open : List ℕ
second_open = codes ", and at second reading in "

unfoldable pub second_text : Shown → (second : ℕ) → List ℕ
second_text shown second = second_open ++ cycle_text shown second ++ codes ".</p>\n"

unfoldable pub stations_text : Shown → (first second : ℕ) → List ℕ
stations_text shown first second = first_text shown first ++ second_text shown second

unfoldable pub card_stations : ShownRun → (card : ℕ) → (trace : List ℕ) → List ℕ
card_stations shown card trace = stations_text shown.cycles (first_reading shown card trace) (second_reading shown card trace)

-- in which cycles it stood there, and into which sums it went
unfoldable pub card_run : ShownRun → (trace : List ℕ) → List PageSum → (card : ℕ) → List ℕ
card_run shown trace sums card = card_stations shown card trace ++ card_sums sums card
