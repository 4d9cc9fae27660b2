-- The lines of a report in their order, before they are printed: a group gives the lines of its parts, and then its total line. What a
-- line tells of is a card, with the groups that it opens, or a whole group.
use Rattle.std.specs.Prelude.{ℕ, zero, suc, List, [], ◌∷◌, ◌++◌}
use Rattle.chart_lines.specs.declared.charts.chart.Line.{Line}
use Rattle.report_definition.specs.Groups.{groups_within}

-- A line of the outline. The card of a detail line is the first of groups of the levels 1 to `opens`, and of no higher one; levels
-- are 1 to 4.
pub data OutlineLine : Type 0 where
  Detail : (opens : ℕ) (card : List ℕ) → OutlineLine
  Total : (level : ℕ) (group : List (List ℕ)) → OutlineLine

-- the lines of cards: the first card opens what is given, each later one nothing
abbrev pub details : ℕ → List (List ℕ) → List OutlineLine
details opens [] = []
details opens (card ∷ cards) = Detail opens card ∷ details 0 cards

-- the parts of a group, one after another: the first opens what the group opens, each later one the groups up to its own level
abbrev pub by_parts : (ℕ → List (List ℕ) → List OutlineLine) → (level opens : ℕ) → List (List (List ℕ)) → List OutlineLine
by_parts outline level opens [] = []
by_parts outline level opens (part ∷ parts) = outline opens part ++ by_parts outline level level parts

-- a group of a level: its parts are the groups of the level below, and those of level 1 have cards alone
abbrev pub outline : List Line → (level opens : ℕ) → List (List ℕ) → List OutlineLine
outline lines zero opens group = details opens group
outline lines (suc level) opens group =
    by_parts (outline lines level) level opens (groups_within lines level group) ++ (Total (suc level) group ∷ [])

-- the outline of a deck, which is the one group of level 4; a deck without cards has no line
abbrev pub outline_of : List Line → List (List ℕ) → List OutlineLine
outline_of lines [] = []
outline_of lines (card ∷ cards) = outline lines 4 4 (card ∷ cards)
