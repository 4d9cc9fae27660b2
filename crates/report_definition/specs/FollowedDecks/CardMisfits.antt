-- Misfits card by card: those of a card are the misfits of the groups that end after it.
use Rattle.std.specs.Prelude.{ℕ, zero, suc, ◌+◌, ◌≤◌, List, [], ◌∷◌, ◌++◌, Some, None}
use Rattle.chart_lines.specs.declared.charts.chart.Line.{Line}
use Rattle.report_definition.specs.Breaks.{ended_after, no_cards, taking, cleared}
use Rattle.report_definition.specs.Misfits.{Misfit, misfits_in}
use Rattle.report_definition.specs.Totals.{GroupFits}

-- the misfits of the groups of the levels 1 to a given one, after so many cards
abbrev pub misfits_to : List Line → (cards level : ℕ) → (ℕ → List (List ℕ)) → List Misfit
misfits_to lines cards zero groups = []
misfits_to lines cards (suc level) groups =
    misfits_to lines cards level groups ++ misfits_in lines (suc level) cards (groups (suc level))

-- the misfits of the card with a number and of the cards after it
abbrev pub misfits_from : List Line → ℕ → (ℕ → List (List ℕ)) → List ℕ → List (List ℕ) → List Misfit
misfits_from lines number so_far card [] = misfits_to lines number (ended_after lines card None) (taking card so_far)
misfits_from lines number so_far card (next ∷ cards) =
    let ended = ended_after lines card (Some next) in
    misfits_to lines number ended (taking card so_far)
    ++ misfits_from lines (number + 1) (cleared ended (taking card so_far)) next cards

-- the misfits of a deck, card by card
abbrev pub misfits_by_cards : List Line → List (List ℕ) → List Misfit
misfits_by_cards lines [] = []
misfits_by_cards lines (card ∷ cards) = misfits_from lines 1 no_cards card cards

-- The groups of the levels 1 to a given one fit.
abbrev pub GroupsFit : List Line → ℕ → (ℕ → List (List ℕ)) → Type 0
GroupsFit lines ended groups = (level : ℕ) → 1 ≤ level → level ≤ ended → GroupFits lines level (groups level)

-- The groups that end after the first so many of a card and the cards after it fit.
abbrev pub FitFrom : List Line → (ℕ → List (List ℕ)) → List ℕ → List (List ℕ) → ℕ → Type 0
FitFrom lines so_far card cards zero = Unit {0}
FitFrom lines so_far card [] (suc count) = GroupsFit lines (ended_after lines card None) (taking card so_far)
FitFrom lines so_far card (next ∷ cards) (suc count) =
    let ended = ended_after lines card (Some next) in
    GroupsFit lines ended (taking card so_far) × FitFrom lines (cleared ended (taking card so_far)) next cards count

-- The groups that end after the first so many cards of a deck fit.
abbrev pub FirstFit : List Line → List (List ℕ) → ℕ → Type 0
FirstFit lines [] count = Unit {0}
FirstFit lines (card ∷ cards) count = FitFrom lines no_cards card cards count
