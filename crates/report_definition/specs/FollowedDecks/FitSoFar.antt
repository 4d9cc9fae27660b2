-- Decks of which some cards are known, and no group that ended so far has a misfit.
use Rattle.std.specs.Prelude.{◌≡◌, ℕ, ◌+◌, List, ◌∷◌, ◌++◌, Option, length}
use Rattle.chart_lines.specs.declared.charts.chart.Line.{Line}
use Rattle.report_definition.specs.Breaks.{ended_after, taking}
use Rattle.report_definition.specs.Misfits.{Misfit, misfits}
use Rattle.report_definition.specs.FollowedDecks.CardMisfits.{misfits_from, misfits_to}
use Rattle.report_definition.specs.FollowedDecks.Stands.{at_first, last_of, stand_before}

-- the cards of the unfinished group of each level before the last of a card and the cards after it
abbrev pub groups_before : List Line → List ℕ → List (List ℕ) → ℕ → List (List ℕ)
groups_before lines card cards = (stand_before lines at_first card cards).so_far

-- No group that ends before the last of a card and the cards after it has a misfit: whatever cards come later, the misfits of the deck are those
-- from that card on.
abbrev pub FitSoFar : List Line → List ℕ → List (List ℕ) → Type 0
FitSoFar lines card cards =
    (later : List (List ℕ)) → misfits lines (card ∷ (cards ++ later))
    ≡ misfits_from lines (length cards + 1) (groups_before lines card cards) (last_of card cards) later

-- the misfits of the groups that end with the last of a card and the cards after it, given the next card, if there is one
abbrev pub misfits_of_last : List Line → List ℕ → List (List ℕ) → Option (List ℕ) → List Misfit
misfits_of_last lines card cards next =
    misfits_to lines (length cards + 1) (ended_after lines (last_of card cards) next)
    (taking (last_of card cards) (groups_before lines card cards))
