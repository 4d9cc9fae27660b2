-- A helper of the code: what the reader of a whole text answers, as a function of its lines.
-- This is a step between the code and the grammar: no public clause speaks of it.
use Rattle.std.specs.Prelude.{◌≡◌, ℕ, Bool, List, [], ◌∷◌, ◌++◌, Option, Some, None, Result, Ok, Err, suc, if◌then◌else◌, codes}
use Rattle.card_code.specs.Lines.{lines_of}
use Rattle.chart_lines.specs.ChartsWords.Chart.{Chart}
use Rattle.chart_lines.specs.TokensWords.Dividing.{tokens_of}
use Rattle.chart_lines.specs.TokensWords.FrameReading.{is_larger, is_title_line}
use Rattle.chart_lines.specs.TokensWords.HelperLines.{divided_content}
use Rattle.chart_lines.specs.declared.tokens.frame.Content as frame
use Rattle.chart_lines.specs.declared.tokens.frame.Content.TheVariants.{Empty, End, Says, NoLine}
use Rattle.chart_text.specs.ChartText.{line_of, number_if_coupled, version_text}
use Rattle.chart_text.specs.HelperForms.{said_of}
use Rattle.chart_lines.specs.declared.charts.chart.Line.{Line}
use Rattle.chart_lines.specs.declared.charts.chart.Version.{Version}
use Rattle.chart_lines.specs.declared.charts.chart.Version.TheVariants as version
use Rattle.chart_text.specs.declared.forms.Said.{Said}
use Rattle.chart_text.specs.declared.fault.TextFault.{TextFault}
use Rattle.chart_text.specs.declared.fault.TextFault.TheVariants.{TooLarge, NoFirstLine, NotALine, NoEnd, Memory}

-- what a line of a chart is
abbrev pub Content : Type 0
Content = frame.Content Said

unfoldable pub content_of : Version → List ℕ → Content
content_of version line = divided_content (said_of version) (tokens_of line)

-- whether a line is the first line of a version
abbrev pub is_first : Version → List ℕ → Bool
is_first version line = is_title_line (codes "CHART407") (version_text version) line

-- the version that the first line names
abbrev pub version_of : List ℕ → Option Version
version_of line =
    if is_first version.First line then Some version.First
    else (if is_first version.Second line then Some version.Second else None)

-- whether a text is too large
abbrev pub is_large : List (List ℕ) → Bool
is_large lines = is_larger 500 200 lines

-- lines that are read already, and the numbers of those that bear the word COUPLED, before the others
abbrev pub with_lines : List Line → List ℕ → Result Chart TextFault → Result Chart TextFault
with_lines lines coupled (Ok chart) = Ok (record {
  version = chart.version;
  lines = lines ++ chart.lines;
  coupled = coupled ++ chart.coupled;
  end = chart.end;
})
with_lines lines coupled (Err fault) = Err fault

-- one line, where END stands at a number already or doesn't, and how the others go on
abbrev pub line_then : Option ℕ → ℕ → Content → (Option ℕ → Result Chart TextFault) → Result Chart TextFault
line_then end number Empty others = others end
line_then None number End others = others (Some number)
line_then None number (Says said) others =
    with_lines (line_of number said ∷ []) (number_if_coupled number said) (others None)
line_then (Some end) number End others = Err (NotALine number)
line_then (Some end) number (Says said) others = Err (NotALine number)
line_then end number NoLine others = Err (NotALine number)

-- the lines from a number on
unfoldable pub chart_from : Version → Option ℕ → ℕ → List (List ℕ) → Result Chart TextFault
chart_from version None number [] = Err NoEnd
chart_from version (Some end) number [] = Ok (record { version = version; lines = []; coupled = []; end = end })
chart_from version end number (line ∷ lines) =
    line_then end number (content_of version line) (λ e. chart_from version e (suc number) lines)

-- the lines after the first, by the version that this names
abbrev pub chart_after : Option Version → List (List ℕ) → Result Chart TextFault
chart_after (Some version) others = chart_from version None 2 others
chart_after None others = Err NoFirstLine

-- all lines of a text that is not too large
abbrev pub chart_of_lines : List (List ℕ) → Result Chart TextFault
chart_of_lines [] = Err NoFirstLine
chart_of_lines (first ∷ others) = chart_after (version_of first) others

-- a text
unfoldable pub chart_of : List ℕ → Result Chart TextFault
chart_of bytes = if is_large (lines_of bytes) then Err TooLarge else chart_of_lines (lines_of bytes)

-- The answer is the one of the definition, unless memory was refused.
abbrev pub Faults : TextFault → Result Chart TextFault → Type 0
Faults Memory read = Unit {0}
Faults TooLarge read = read ≡ Err TooLarge
Faults NoFirstLine read = read ≡ Err NoFirstLine
Faults (NotALine line) read = read ≡ Err (NotALine line)
Faults NoEnd read = read ≡ Err NoEnd

abbrev pub Answers : Result Chart TextFault → Result Chart TextFault → Type 0
Answers (Ok chart) read = read ≡ Ok chart
Answers (Err fault) read = Faults fault read

-- the lines so far, those that bear the word COUPLED and END gain what one line gives, however the others go on
abbrev pub TakesLine : Content → ℕ → List Line → List ℕ → Option ℕ → List Line → List ℕ → Option ℕ → Type 0
TakesLine content number lines coupled end new_lines new_coupled new_end =
    (others : Option ℕ → Result Chart TextFault) → with_lines lines coupled (line_then end number content others)
    ≡ with_lines new_lines new_coupled (others new_end)

-- one line is the fault, however the others go on
abbrev pub RefusesLine : Content → ℕ → Option ℕ → TextFault → Type 0
RefusesLine content number end fault = (others : Option ℕ → Result Chart TextFault)
    → Faults fault (line_then end number content others)
