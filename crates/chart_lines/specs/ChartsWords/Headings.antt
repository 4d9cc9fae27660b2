-- The heading lines of a page, numbered from the top.
use Rattle.std.specs.Prelude.{ℕ, ◌==◌, Option, Some, None, if◌then◌else◌}
use Rattle.chart_lines.specs.declared.charts.heading.HeadingLine.{HeadingLine}
use Rattle.chart_lines.specs.declared.charts.heading.HeadingLine.TheVariants.{First, Second, Third}

-- the number of a heading line
abbrev pub heading_number : HeadingLine → ℕ
heading_number First = 1
heading_number Second = 2
heading_number Third = 3

-- the heading line with a number, if it is 1 to 3
abbrev pub heading_with : ℕ → Option HeadingLine
heading_with number =
    if number == 1 then Some First
    else (if number == 2 then Some Second
    else (if number == 3 then Some Third else None))
