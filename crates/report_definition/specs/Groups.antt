-- Control groups. The one group of level 4 is the deck. The groups of a level are the longest runs of consecutive cards, within
-- a group of the level above, that are equal on all control fields of the level. A level without control fields cuts nothing.
use Rattle.std.specs.Prelude.{ℕ, zero, suc, ◌==◌, Bool, List, [], ◌∷◌, ◌++◌, if◌then◌else◌}
use Rattle.std.specs.List.{flat_map, list_all}
use Rattle.chart_lines.specs.declared.charts.chart.Line.{Line}
use Rattle.chart_lines.specs.declared.charts.statement.Field.{Field}
use Rattle.chart_rules.specs.Controls.{controls_of}
use Rattle.chart_rules.specs.ValidCard.{column_of}
use Rattle.report_definition.specs.Amounts.{columns_in}

-- whether two cards have the same punches in all columns of a field
abbrev pub is_same_on : Field → List ℕ → List ℕ → Bool
is_same_on field one other = list_all (λ column. column_of one column == column_of other column) (columns_in field)

-- whether two cards are equal on all control fields of a level
abbrev pub is_same_at : List Line → ℕ → List ℕ → List ℕ → Bool
is_same_at lines level one other = list_all (λ field. is_same_on field one other) (controls_of lines level)

-- the cards after a card that go on with its run
abbrev pub rest_of_run : (List ℕ → List ℕ → Bool) → List ℕ → List (List ℕ) → List (List ℕ)
rest_of_run same card [] = []
rest_of_run same card (next ∷ cards) = if same card next then next ∷ rest_of_run same next cards else []

-- the runs after that of a card
abbrev pub later_runs : (List ℕ → List ℕ → Bool) → List ℕ → List (List ℕ) → List (List (List ℕ))
later_runs same card [] = []
later_runs same card (next ∷ cards) =
    if same card next then later_runs same next cards else (next ∷ rest_of_run same next cards) ∷ later_runs same next cards

-- the longest runs of consecutive cards that are the same
abbrev pub runs : (List ℕ → List ℕ → Bool) → List (List ℕ) → List (List (List ℕ))
runs same [] = []
runs same (card ∷ cards) = (card ∷ rest_of_run same card cards) ∷ later_runs same card cards

-- the groups of a level within a group of the level above; no field controls level 0, so all cards are one group there
abbrev pub groups_within : List Line → ℕ → List (List ℕ) → List (List (List ℕ))
groups_within lines level cards = runs (is_same_at lines level) cards

-- The groups of a level in a group of the level `above`: that group alone where this is its own level, else those in its parts.
abbrev pub groups_in : List Line → (above level : ℕ) → List (List ℕ) → List (List (List ℕ))
groups_in lines zero level group = group ∷ []
groups_in lines (suc above) level group =
    if level == suc above then group ∷ [] else flat_map (groups_in lines above level) (groups_within lines above group)

-- the groups of a level of a deck, which is the one group of level 4; a deck without cards has none
abbrev pub groups_of : List Line → ℕ → List (List ℕ) → List (List (List ℕ))
groups_of lines level [] = []
groups_of lines level (card ∷ cards) = groups_in lines 4 level (card ∷ cards)

-- the cards of groups, put together
abbrev pub cards_of : List (List (List ℕ)) → List (List ℕ)
cards_of [] = []
cards_of (group ∷ groups) = group ++ cards_of groups
