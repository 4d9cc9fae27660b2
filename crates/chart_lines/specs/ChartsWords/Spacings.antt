-- Spacing: how many lines the form moves for a line.
use Rattle.std.specs.Prelude.{ℕ, ◌==◌, Option, Some, None, if◌then◌else◌}
use Rattle.chart_lines.specs.declared.charts.spacing.Spacing.{Spacing}
use Rattle.chart_lines.specs.declared.charts.spacing.Spacing.TheVariants.{Single, Double, Triple}

-- the lines of a spacing
abbrev pub spacing_number : Spacing → ℕ
spacing_number Single = 1
spacing_number Double = 2
spacing_number Triple = 3

-- the spacing of so many lines, if these are 1 to 3
abbrev pub spacing_with : ℕ → Option Spacing
spacing_with number =
    if number == 1 then Some Single
    else (if number == 2 then Some Double
    else (if number == 3 then Some Triple else None))
