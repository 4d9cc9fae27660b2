-- Which cards and cycles have an element: the cards of the cycles that are shown, the first 200 of them, and the cycles of the part of the
-- trace that is shown.
use Rattle.std.specs.Prelude.{ℕ, ◌+◌, ◌-◌, List, drop, length, max, min, take}
use Rattle.card_code.specs.Lines.{lines_of}
use Rattle.show_links.specs.declared.shown.Shown.{Shown}
use Rattle.show_links.specs.declared.shown.ShownRun.{ShownRun}
use Rattle.explain_words.specs.declared.traces.parts.CycleChoice.{CycleChoice}
use Rattle.explain_words.specs.declared.traces.parts.TracePart.{TracePart}

-- the first card that is shown: a cycle before the first card cycle belongs to no card
abbrev pub first_card : CycleChoice → ℕ
first_card choice = max choice.first_card 1

-- the cards of a deck of so many that are shown, by the choice of the cycles
abbrev pub cards_shown : CycleChoice → (cards : ℕ) → Shown
cards_shown choice cards = record { first = first_card choice; last = min (min cards choice.last_card) (first_card choice + 199) }

-- the cycles of a part of the trace
abbrev pub part_cycles : TracePart → Shown
part_cycles part = record { first = part.before + 1; last = part.before + length (lines_of part.text.items) }

-- what is shown of the run over a deck of so many cards
abbrev pub shown_run : CycleChoice → (cards : ℕ) → TracePart → ShownRun
shown_run choice cards part = record { cards = cards_shown choice cards; cycles = part_cycles part }

-- the cards of a deck from one to another
abbrev pub cards_from : Shown → List (List ℕ) → List (List ℕ)
cards_from shown deck = drop (shown.first - 1) (take shown.last deck)

-- the cards of a deck that are shown
abbrev pub shown_cards : CycleChoice → List (List ℕ) → List (List ℕ)
shown_cards choice deck = cards_from (cards_shown choice (length deck)) deck
