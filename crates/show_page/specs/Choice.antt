-- Which pages of a report are shown, and which cycles of the run.
use Rattle.std.specs.Prelude.{ℕ, ◌+◌, ◌-◌, ◌^◌, List, [], ◌∷◌, Option, None, Some, if◌then◌else◌, nat_le}
use Rattle.explain_wheels.specs.declared.explanations.found.FoundLine.{FoundLine}
use Rattle.explain_words.specs.declared.traces.parts.CycleChoice.{CycleChoice}

-- a page, the one before it and the one behind it; page 1 has none before it
abbrev pub pages_around : (page : ℕ) → List ℕ
pages_around page = if nat_le page 1 then 1 ∷ 2 ∷ [] else (page - 1) ∷ page ∷ (page + 1) ∷ []

-- the pages that are shown: those around a page; or, around none, the first two, but all of a deck of 200 cards at most
abbrev pub pages_shown : (around : Option ℕ) → (cards : ℕ) → Option (List ℕ)
pages_shown None cards = if nat_le cards 200 then None else Some (1 ∷ 2 ∷ [])
pages_shown (Some page) cards = Some (pages_around page)

-- the first of them
abbrev pub first_shown : (around : Option ℕ) → ℕ
first_shown None = 1
first_shown (Some page) = if nat_le page 1 then 1 else page - 1

-- the card of the last of some lines, or this one if there is none
abbrev pub last_card : (card : ℕ) → List FoundLine → ℕ
last_card card [] = card
last_card card (one ∷ others) = last_card one.cards others

-- The cycles of the cards from the one before that of the first line to that of the last one: 1000 at most. Heading cycles before a card cycle
-- belong to the card that is read next, but run while the card before it is the one that was read last; a trace counts them by that one. So
-- the cycle of each line is among them, up to that limit.
abbrev pub cycles_of_lines : List FoundLine → CycleChoice
cycles_of_lines [] = record { first_card = 1; last_card = 0; most = 0 }
cycles_of_lines (one ∷ others) = record { first_card = one.cards - 1; last_card = last_card one.cards others; most = 1000 }

-- The cycles that are shown: those of the lines around a page; or, around none, the first 200, but all of a deck of 200 cards at most.
abbrev pub cycles_shown : (around : Option ℕ) → (cards : ℕ) → List FoundLine → CycleChoice
cycles_shown None cards found =
    record { first_card = 0; last_card = 2 ^ 32 - 1; most = if nat_le cards 200 then 2 ^ 64 - 1 else 200 }
cycles_shown (Some page) cards found = cycles_of_lines found
