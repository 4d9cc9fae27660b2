-- Which control keys of a deck come back. A break of a level before a card begins a group of that level within the unfinished group of the level
-- above, and groups of all lower levels. If an earlier card of that group of the level above is equal to the card on all control fields of the
-- break's level, the key comes back. Groups of lower levels begin there too, but theirs are the first in the new group: no key of theirs comes back.
use Rattle.std.specs.Prelude.{ℕ, zero, suc, ◌+◌, Bool, true, false, nat_lt, List, [], ◌∷◌, ◌++◌, Option, Some, None, option_map, option_to_list}
use Rattle.std.specs.Map.{lookup}
use Rattle.chart_lines.specs.declared.charts.chart.Line.{Line}
use Rattle.cli_decks.specs.declared.deck_notes.key_returns.returns.Return.{Return}
use Rattle.report_definition.specs.Breaks.{highest}
use Rattle.report_definition.specs.Groups.{is_same_at}

-- cards with their numbers
abbrev pub Numbered : Type 0
Numbered = List (List ℕ × ℕ)

-- for each level the cards so far of the unfinished group of the level above it
abbrev pub Earlier : Type 0
Earlier = ℕ → Numbered

-- before the first card
abbrev pub none_earlier : Earlier
none_earlier level = []

-- some cards, or none if their group ends
abbrev pub cut : Bool → Numbered → Numbered
cut true cards = []
cut false cards = cards

-- some cards and one more
abbrev pub with_card : List ℕ → (number : ℕ) → Numbered → Numbered
with_card card number cards = cards ++ (card, number) ∷ []

-- the same for each level, where a break of a level stands before the card, or none (0): the groups above all lower levels end there
abbrev pub earlier_with : Earlier → (broken : ℕ) → List ℕ → (number : ℕ) → Earlier
earlier_with earlier broken card number level = with_card card number (cut (nat_lt level broken) (earlier level))

-- the number of the first of some cards to which a card is equal on all control fields of a level
abbrev pub stood_among : List Line → (level : ℕ) → List ℕ → Numbered → Option ℕ
stood_among lines level card cards = lookup (λ earlier. is_same_at lines level card earlier) cards

-- the same at the level of the break before the card, among the cards of the group of the level above
abbrev pub stood : List Line → Earlier → (broken : ℕ) → List ℕ → Option ℕ
stood lines earlier zero card = None
stood lines earlier (suc level) card = stood_among lines (suc level) card (earlier (suc level))

-- the level of the break before a card, given the card before it, or 0: no break stands before the first card
abbrev pub broken_before : List Line → (last : Option (List ℕ)) → List ℕ → ℕ
broken_before lines None card = 0
broken_before lines (Some last) card = highest lines last card

-- a key of a level that comes back
abbrev pub returned : (level again first : ℕ) → Return
returned level again first = record { level = level; first = first; again = again }

-- what comes back with a card, where its key stood before
abbrev pub told_of : (level again : ℕ) → (first : Option ℕ) → List Return
told_of level again first = option_to_list (option_map (returned level again) first)

-- what comes back with the card of a number and the cards after it
abbrev pub returns_from : List Line → Earlier → (last : Option (List ℕ)) → (number : ℕ) → List (List ℕ) → List Return
returns_from lines earlier last number [] = []
returns_from lines earlier last number (card ∷ cards) =
    let broken = broken_before lines last card in
    told_of broken number (stood lines earlier broken card)
    ++ returns_from lines (earlier_with earlier broken card number) (Some card) (number + 1) cards

-- the keys of a deck that come back, each as often as it does
abbrev pub returns : List Line → List (List ℕ) → List Return
returns lines cards = returns_from lines none_earlier None 1 cards
