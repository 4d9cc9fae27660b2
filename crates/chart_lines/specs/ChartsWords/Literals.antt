-- The literals in the lines of a chart.
use Rattle.std.specs.Prelude.{◌≡◌, ℕ, List, Contains, Option, Some, None}
use Rattle.chart_lines.specs.ChartsWords.Literal.{IsLiteralText}
use Rattle.chart_lines.specs.declared.charts.chart.Line.{Line}
use Rattle.chart_lines.specs.declared.charts.statement.Statement.{Statement}
use Rattle.chart_lines.specs.declared.charts.statement.Statement.TheVariants as says

-- the literal that a line of the chart puts on the report, if it does
abbrev pub literal_in : Statement → Option (List ℕ)
literal_in (says.Head line wheel literal) = Some literal
literal_in (says.DetailLiteral wheel literal) = Some literal
literal_in (says.TotalLiteral level wheel literal) = Some literal
literal_in other = None

-- The literals of a chart have print characters and blanks alone.
abbrev pub HaveLiteralTexts : List Line → Type 0
HaveLiteralTexts lines =
    (line : Line) (literal : List ℕ) → Contains lines line → literal_in line.statement ≡ Some literal → IsLiteralText literal
