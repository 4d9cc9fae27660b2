-- A rule on the form: its lines leave room for the heading lines and for the overflow.
use Rattle.std.specs.Prelude.{ℕ, ◌+◌, ◌-◌, Bool, true, false, List, [], ◌∷◌, max, not, ◌&&◌, nat_lt, nat_le}
use Rattle.std.specs.List.{list_any}
use Rattle.chart_lines.specs.ChartsWords.Headings.{heading_number}
use Rattle.chart_lines.specs.declared.charts.chart.Line.{Line}
use Rattle.chart_lines.specs.declared.charts.statement.Statement.{Statement}
use Rattle.chart_lines.specs.declared.charts.statement.Statement.TheVariants as says

-- the number of the heading line that a HEAD line names, and 0 for other lines
abbrev pub heading_of : Statement → ℕ
heading_of (says.Head line wheel literal) = heading_number line
heading_of other = 0

-- how many heading lines a chart has: the highest that a HEAD line names, or 0
abbrev pub heading_count : List Line → ℕ
heading_count [] = 0
heading_count (line ∷ lines) = max (heading_of line.statement) (heading_count lines)

-- whether a form has room for so many heading lines: the first line is at least 1, the last heading line (the first
-- line where there is none) stands above the overflow line, and two lines follow that one, of at most 144
abbrev pub has_room : ℕ → ℕ → ℕ → ℕ → Bool
has_room headings lines first overflow =
    nat_le 1 first && nat_lt (first + max headings 1 - 1) overflow && nat_le (overflow + 2) lines && nat_le lines 144

-- Form: the form that a FORM line gives has no room for the chart's headings, for its overflow line or for the two lines below it.
abbrev pub breaks_form : List Line → Statement → Bool
breaks_form chart (says.Form lines first overflow) = not (has_room (heading_count chart) lines first overflow)
breaks_form chart other = false

-- whether a line is a FORM line
abbrev pub is_form : Statement → Bool
is_form (says.Form lines first overflow) = true
is_form other = false

-- whether a chart has a FORM line
abbrev pub has_form : List Line → Bool
has_form chart = list_any (λ line. is_form line.statement) chart

-- whether a chart has no FORM line
abbrev pub lacks_form : List Line → Bool
lacks_form chart = not (has_form chart)
