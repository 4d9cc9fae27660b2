-- The text rules, in the order in which they are asked: the size of the text, its first line, its other lines, its END.
use Rattle.std.specs.Prelude.{ℕ, ◌<◌, ◌≤◌, List, length, Option, Some, None}
use Rattle.card_code.specs.Lines.{lines_of}
use Rattle.chart_lines.specs.TokensWords.Frame as frame
use Rattle.chart_lines.specs.TokensWords.Frame.{LacksEnd, line_at}
use Rattle.chart_text.specs.ChartText.{IsFirstLine, IsFormLine, IsTooLarge}
use Rattle.chart_lines.specs.declared.charts.chart.Version.{Version}
use Rattle.chart_text.specs.declared.fault.TextFault.{TextFault}
use Rattle.chart_text.specs.declared.fault.TextFault.TheVariants.{TooLarge, NoFirstLine, NotALine, NoEnd, Memory}

-- the number of a fault in the catalogue of faults; want of memory has none
abbrev pub fault_number : TextFault → Option ℕ
fault_number TooLarge = Some 11
fault_number NoFirstLine = Some 12
fault_number (NotALine line) = Some 13
fault_number NoEnd = Some 14
fault_number Memory = None

-- there is a first line, and it is `CHART407` with a version
pub record HasFirstLine (lines : List (List ℕ)) : Type 0 where
  pub version : Version
  pub there : 1 ≤ length lines
  pub begun : IsFirstLine version (line_at lines 1)

-- the line of a number, from 2 on, is one that no form of the version derives, or one after END that isn't empty
abbrev pub IsMisplaced : Version → List (List ℕ) → ℕ → Type 0
IsMisplaced version lines number = frame.IsMisplaced (IsFormLine version) 2 lines number

-- it is the lowest of these
pub record IsLowestMisplaced (version : Version) (lines : List (List ℕ)) (number : ℕ) : Type 0 where
  pub misplaced : IsMisplaced version lines number
  pub lowest : (lower : ℕ) → lower < number → ¬ IsMisplaced version lines lower

-- the fault of the lines of a text: its rule is broken, and none that is asked before; no text makes memory run out
abbrev pub HaveFault : List (List ℕ) → TextFault → Type 0
HaveFault lines TooLarge = IsTooLarge lines
HaveFault lines NoFirstLine = (¬ IsTooLarge lines) × (¬ HasFirstLine lines)
HaveFault lines (NotALine number) =
    (¬ IsTooLarge lines) × (first : HasFirstLine lines) × IsLowestMisplaced first.version lines number
HaveFault lines NoEnd =
    (¬ IsTooLarge lines) × (first : HasFirstLine lines) × ((number : ℕ) → ¬ IsMisplaced first.version lines number)
    × LacksEnd 2 lines
HaveFault lines Memory = ⊥

-- the fault of a text
abbrev pub HasTextFault : List ℕ → TextFault → Type 0
HasTextFault bytes fault = HaveFault (lines_of bytes) fault
