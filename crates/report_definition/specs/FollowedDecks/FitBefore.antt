-- Decks whose first totals fit.
use Rattle.std.specs.Prelude.{◌≡◌, ℕ, ◌+◌, ◌≤◌, List, ◌∷◌, ◌++◌, length}
use Rattle.chart_lines.specs.ChartsWords.Levels.{level_number}
use Rattle.chart_lines.specs.declared.charts.chart.Line.{Line}
use Rattle.chart_lines.specs.declared.charts.level.Level.{Level}
use Rattle.report_definition.specs.Groups.{cards_of, groups_of}
use Rattle.report_definition.specs.Totals.{GroupFits}

-- The totals that end with the first so many cards of a deck fit: those of each group, of each level, that together with the groups before
-- it has no more cards than these.
abbrev pub FitBefore : List Line → (deck : List (List ℕ)) → (count : ℕ) → Type 0
FitBefore lines deck count =
    (level : Level) (earlier later : List (List (List ℕ))) (group : List (List ℕ))
    → groups_of lines (level_number level) deck ≡ earlier ++ (group ∷ later) → length (cards_of earlier) + length group ≤ count
    → GroupFits lines (level_number level) group
