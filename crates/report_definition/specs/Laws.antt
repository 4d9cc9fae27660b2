-- Laws of reports, by which a reader can check what a report is.
use Rattle.std.specs.Prelude.{◌≡◌, ◌↔◌, ℕ, ℤ, pos, ◌+ℤ◌, ◌≤◌, List, [], ◌∷◌, length}
use Rattle.chart_lines.specs.ChartsWords.Chart.{Chart}
use Rattle.chart_lines.specs.declared.charts.chart.Line.{Line}
use Rattle.chart_lines.specs.declared.charts.statement.Field.{Field}
use Rattle.chart_rules.specs.Below.chart_line_rules.PrintRules.Items.{figure_width}
use Rattle.chart_rules.specs.Below.chart_line_rules.declared.print_rules.items.Figure.{Figure}
use Rattle.report_definition.specs.BodyLines.{Piece, line_of}
use Rattle.report_definition.specs.Edits.{edited, edited_blank}
use Rattle.report_definition.specs.Groups.{cards_of, groups_of, groups_within}
use Rattle.report_definition.specs.Report.{Report}
use Rattle.report_definition.specs.Misfits.{misfits}
use Rattle.report_definition.specs.Totals.{Fits, total_of}

-- The groups of a level, put together, are the group of the level above that they are parts of.
abbrev pub GroupsMakeTheWhole : Type 0
GroupsMakeTheWhole = (lines : List Line) (level : ℕ) (whole : List (List ℕ)) → cards_of (groups_within lines level whole) ≡ whole

-- The groups of a level of a deck, put together, are the deck.
abbrev pub GroupsMakeTheDeck : Type 0
GroupsMakeTheDeck = (lines : List Line) (level : ℕ) (cards : List (List ℕ)) → cards_of (groups_of lines level cards) ≡ cards

-- the sum of the totals of groups
abbrev pub totals_of : Field → List (List (List ℕ)) → ℤ
totals_of field [] = pos 0
totals_of field (group ∷ groups) = total_of field group +ℤ totals_of field groups

-- The total of a group is the sum of the totals of its parts.
abbrev pub TotalsAddUp : Type 0
TotalsAddUp =
    (lines : List Line) (level : ℕ) (field : Field) (whole : List (List ℕ))
    → total_of field whole ≡ totals_of field (groups_within lines level whole)

-- An edited amount, blank or not, takes all wheels of its item.
abbrev pub EditsFillTheirItems : Type 0
EditsFillTheirItems =
    (number : ℤ) (figure : Figure) → 1 ≤ figure.digits → figure.decimals ≤ figure.digits
    → (length (edited number figure.digits figure.decimals figure.mark) ≡ figure_width figure)
    × (length (edited_blank figure.digits figure.decimals figure.mark) ≡ figure_width figure)

-- The totals of a deck fit exactly where it has no misfit.
abbrev pub FitWithoutMisfits : Type 0
FitWithoutMisfits = (lines : List Line) (cards : List (List ℕ)) → Fits lines cards ↔ (misfits lines cards ≡ [])

-- Every line has 120 characters.
abbrev pub LinesHave120Characters : Type 0
LinesHave120Characters = (pieces : List Piece) → length (line_of pieces) ≡ 120

-- A report of no card is empty.
abbrev pub NoCardsNoBytes : Type 0
NoCardsNoBytes = (chart : Chart) → Report chart [] ≡ []
