-- Totals, and the decks that fit. The total of an amount over a group is the sum of its values on the group's cards. A deck fits where
-- each total that a total line shows has no more digits than the line gives it, for each group of the line's level.
use Rattle.std.specs.Prelude.{◌≡◌, ℕ, ℤ, pos, ◌+ℤ◌, ◌^◌, ◌<◌, List, [], ◌∷◌, Some, unsigned_abs}
use Rattle.std.specs.List.{All, Contains}
use Rattle.chart_lines.specs.ChartsWords.Levels.{level_number}
use Rattle.chart_lines.specs.declared.charts.chart.Line.{Line}
use Rattle.chart_lines.specs.declared.charts.level.Level.{Level}
use Rattle.chart_lines.specs.declared.charts.statement.Field.{Field}
use Rattle.chart_lines.specs.declared.charts.statement.Statement.TheVariants as says
use Rattle.chart_lines.specs.declared.charts.statement.TotalLine.{TotalLine}
use Rattle.chart_rules.specs.Below.chart_line_rules.FieldRules.Fields.{field_named}
use Rattle.report_definition.specs.Amounts.{value_of}
use Rattle.report_definition.specs.Groups.{groups_of}

-- the total of an amount over a group
abbrev pub total_of : Field → List (List ℕ) → ℤ
total_of field [] = pos 0
total_of field (card ∷ cards) = value_of field card +ℤ total_of field cards

-- The totals of a group of a level fit: the total of each amount that a total line of that level shows has at most the digits that the
-- line gives it.
abbrev pub GroupFits : List Line → ℕ → List (List ℕ) → Type 0
GroupFits lines level group =
    (line : Line) (total : TotalLine) (field : Field) → Contains lines line → line.statement ≡ says.TotalAmount total
    → level_number total.level ≡ level → field_named lines total.name ≡ Some field
    → unsigned_abs (total_of field group) < 10 ^ total.digits

-- A deck fits where the totals of each of its groups fit, at each level.
abbrev pub Fits : List Line → List (List ℕ) → Type 0
Fits lines cards = (level : Level) → All (GroupFits lines (level_number level)) (groups_of lines (level_number level) cards)
