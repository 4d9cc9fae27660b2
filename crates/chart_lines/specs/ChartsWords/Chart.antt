-- A planning chart: what its lines say, apart from how they are spelled.
use Rattle.std.specs.Prelude.{ℕ, ◌<◌, List, [], ◌∷◌}
use Rattle.chart_lines.specs.declared.charts.chart.Line.{Line}
use Rattle.chart_lines.specs.declared.charts.chart.Version.{Version}

-- the version of the language that a chart is written in, the lines that say something, in order, the numbers of those whose
-- total bears the word COUPLED, and the number of the line END
pub record Chart : Type 0 where
  pub version : Version
  pub lines : List Line
  pub coupled : List ℕ
  pub end : ℕ

-- the numbers of the lines rise, and stay below the number of END
abbrev pub NumbersRise : List Line → ℕ → Type 0
NumbersRise [] end = Unit {0}
NumbersRise (line ∷ []) end = line.number < end
NumbersRise (line ∷ next ∷ lines) end = (line.number < next.number) × NumbersRise (next ∷ lines) end
