-- A rule on the carriage tape: the stops of a channel rise on the form, and a skip has a channel.
use Rattle.std.specs.Prelude.{ℕ, Bool, true, false, List, [], ◌∷◌, Option, Some, None, not, ◌&&◌, ◌==◌, nat_lt, nat_le}
use Rattle.std.specs.List.{list_any, list_all}
use Rattle.chart_lines.specs.declared.charts.chart.Line.{Line}
use Rattle.chart_lines.specs.declared.charts.statement.After.TheVariants as after
use Rattle.chart_lines.specs.declared.charts.statement.Statement.{Statement}
use Rattle.chart_lines.specs.declared.charts.statement.Statement.TheVariants as says

-- the lines of the form that a line gives, if it is a FORM line
abbrev pub form_lines_of : Statement → Option ℕ
form_lines_of (says.Form lines first overflow) = Some lines
form_lines_of other = None

-- the lines of a chart's form, by its first FORM line; 0 where there is none
abbrev pub form_lines : List Line → ℕ
form_lines [] = 0
form_lines (line ∷ lines) = elim (form_lines_of line.statement) [ None ↦ form_lines lines | Some count ↦ count ]

-- whether stops rise: each is greater than the one before it, and the first is greater than a given line
abbrev pub rise_above : ℕ → List ℕ → Bool
rise_above before [] = true
rise_above before (stop ∷ stops) = nat_lt before stop && rise_above stop stops

-- whether stops are lines up to a last one
abbrev pub are_within : ℕ → List ℕ → Bool
are_within lines stops = list_all (λ stop. nat_le stop lines) stops

-- whether a channel is 2 to 11, and its stops rise and are lines 1 to the last of a form
abbrev pub is_good_tape : ℕ → ℕ → List ℕ → Bool
is_good_tape lines channel stops =
    nat_le 2 channel && nat_le channel 11 && rise_above 0 stops && are_within lines stops

-- whether a line is TAPE of a channel
abbrev pub is_tape_of : ℕ → Statement → Bool
is_tape_of wanted (says.Tape channel stops) = channel == wanted
is_tape_of wanted other = false

-- whether a chart has a TAPE line of a channel
abbrev pub has_tape : List Line → ℕ → Bool
has_tape lines channel = list_any (λ line. is_tape_of channel line.statement) lines

-- Tape: a TAPE line of a channel that can't have such stops on the chart's form; a skip to a channel of which no TAPE line speaks.
abbrev pub breaks_tape : List Line → Statement → Bool
breaks_tape chart (says.Tape channel stops) = not (is_good_tape (form_lines chart) channel stops)
breaks_tape chart (says.After kind (after.Skip channel)) = not (has_tape chart channel)
breaks_tape chart other = false
