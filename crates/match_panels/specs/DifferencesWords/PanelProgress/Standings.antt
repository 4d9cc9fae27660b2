-- What is told of the counts of a chart's lines.
use Rattle.std.specs.Prelude.{ℕ, ◌==◌, Bool, true, false, List, [], ◌∷◌, ◌++◌, Option, Some, None, codes, decimal, filter_map, if◌then◌else◌}
use Rattle.std.specs.List.{flat_map}
use Rattle.match_panels.specs.DifferencesWords.PanelProgress.Counts.{standing_of}
use Rattle.match_panels.specs.declared.differences.panel_progress.counting.LineCount.{LineCount}
use Rattle.match_panels.specs.declared.differences.panel_progress.counting.Standing.{Standing}
use Rattle.match_panels.specs.declared.differences.panel_progress.counting.Standing.TheVariants.{AsksNothing, Begun, Done, NotBegun}

-- whether two lines stand alike
abbrev pub is_standing : Standing → Standing → Bool
is_standing AsksNothing AsksNothing = true
is_standing Done Done = true
is_standing Begun Begun = true
is_standing NotBegun NotBegun = true
is_standing one other = false

-- the number of a line that stands so
abbrev pub number_if : Standing → LineCount → Option ℕ
number_if standing count = if is_standing standing (standing_of count) then Some count.number else None

-- the numbers of the lines that stand so
abbrev pub numbers_that : Standing → List LineCount → List ℕ
numbers_that standing counts = filter_map (number_if standing) counts

-- a number behind others
abbrev pub behind_comma : ℕ → List ℕ
behind_comma number = codes ", " ++ decimal number

-- the lines of some numbers in words
abbrev pub lines_words : List ℕ → List ℕ
lines_words [] = []
lines_words (only ∷ []) = codes "line " ++ decimal only
lines_words (first ∷ next ∷ others) = codes "lines " ++ decimal first ++ flat_map behind_comma (next ∷ others)

-- a line of the text that tells some numbers, if there are any
abbrev pub numbers_line : (heading : List ℕ) → List ℕ → List ℕ
numbers_line heading [] = []
numbers_line heading (number ∷ numbers) = heading ++ lines_words (number ∷ numbers) ++ codes "\n"

-- The lines that are done, all of whose wires, jacks and stops stand; those of which some stand; and those of which none does. A line that asks
-- for nothing is told nowhere.
abbrev pub standings_text : List LineCount → List ℕ
standings_text counts =
    numbers_line (codes "done: ") (numbers_that Done counts)
    ++ numbers_line (codes "begun: ") (numbers_that Begun counts)
    ++ numbers_line (codes "not begun: ") (numbers_that NotBegun counts)

-- how much a line lacks, if it lacks anything
abbrev pub count_line : LineCount → List ℕ
count_line count =
    if count.missing == 0 then []
    else codes "line " ++ decimal count.number ++ codes ": missing " ++ decimal count.missing ++ codes " of " ++ decimal count.asked ++ codes "\n"

-- how much each line lacks
abbrev pub counts_text : List LineCount → List ℕ
counts_text counts = flat_map count_line counts
