-- Reports card by card. A break of a level stands between two consecutive cards that differ on a control field of that level. It ends the
-- groups of its level and of all lower ones. The last card of a deck ends them all.
use Rattle.std.specs.Prelude.{ℕ, zero, suc, nat_le, List, [], ◌∷◌, ◌++◌, Option, Some, None, if◌then◌else◌}
use Rattle.chart_lines.specs.declared.charts.chart.Line.{Line}
use Rattle.report_definition.specs.Groups.{is_same_at}
use Rattle.report_definition.specs.Outline.{OutlineLine, Detail, Total}

-- the highest level, up to a given one, at which a break stands between two cards, or 0
abbrev pub break_up_to : List Line → ℕ → (card next : List ℕ) → ℕ
break_up_to lines zero card next = 0
break_up_to lines (suc level) card next =
    if is_same_at lines (suc level) card next then break_up_to lines level card next else suc level

-- the highest of the levels 1 to 3 at which a break stands between two cards, or 0
abbrev pub highest : List Line → (card next : List ℕ) → ℕ
highest lines card next = break_up_to lines 3 card next

-- the highest level whose group ends after a card: that of the break before the next card, and 4 after the last card
abbrev pub ended_after : List Line → List ℕ → Option (List ℕ) → ℕ
ended_after lines card None = 4
ended_after lines card (Some next) = highest lines card next

-- For each level the cards of its unfinished group: none before the first card.
abbrev pub no_cards : ℕ → List (List ℕ)
no_cards level = []

-- a card taken into the unfinished group of each level
abbrev pub taking : List ℕ → (ℕ → List (List ℕ)) → ℕ → List (List ℕ)
taking card so_far level = so_far level ++ (card ∷ [])

-- the unfinished groups once those of the levels up to a given one have ended
abbrev pub cleared : ℕ → (ℕ → List (List ℕ)) → ℕ → List (List ℕ)
cleared ended so_far level = if nat_le level ended then [] else so_far level

-- the total lines of the groups of the levels 1 to a given one, the lowest first
abbrev pub totals_to : ℕ → (ℕ → List (List ℕ)) → List OutlineLine
totals_to zero groups = []
totals_to (suc level) groups = totals_to level groups ++ (Total (suc level) (groups (suc level)) ∷ [])

-- the lines of one card: its detail line, and the total lines of the groups that end after it
abbrev pub chunk_of : (opens : ℕ) → (ℕ → List (List ℕ)) → List ℕ → (ended : ℕ) → List OutlineLine
chunk_of opens so_far card ended = Detail opens card ∷ totals_to ended (taking card so_far)

-- The lines of a card and of the cards after it. A card opens groups of the levels that ended after the card before it.
abbrev pub flat : List Line → (ℕ → List (List ℕ)) → (opens : ℕ) → List ℕ → List (List ℕ) → List OutlineLine
flat lines so_far opens card [] = chunk_of opens so_far card (ended_after lines card None)
flat lines so_far opens card (next ∷ cards) =
    let ended = ended_after lines card (Some next) in
    chunk_of opens so_far card ended ++ flat lines (cleared ended (taking card so_far)) ended next cards

-- the lines of a deck, card by card; its first card opens groups of all levels
abbrev pub flat_outline : List Line → List (List ℕ) → List OutlineLine
flat_outline lines [] = []
flat_outline lines (card ∷ cards) = flat lines no_cards 4 card cards
