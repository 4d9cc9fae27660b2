-- A chart as text: line 1 names the language and its version, each other line is a form or empty, END ends the chart.
-- The text rules, which say what is wrong with a text that is no chart, stand in TextFaults.
use Rattle.std.specs.Prelude.{◌≡◌, ℕ, suc, true, false, List, [], ◌∷◌, ◌++◌, if◌then◌else◌, codes}
use Rattle.std.specs.List.{AllByRecursion}
use Rattle.card_code.specs.Lines.{lines_of}
use Rattle.chart_lines.specs.ChartsWords.Chart.{Chart}
use Rattle.chart_lines.specs.TokensWords.Frame.{IsEmptyLine, IsEndLine, IsLarger, IsTitleLine}
use Rattle.chart_lines.specs.TokensWords.Tokens.{HasTokens}
use Rattle.chart_text.specs.Forms.{Says, SaysCoupled}
use Rattle.chart_text.specs.declared.forms.Said.{Said}
use Rattle.chart_lines.specs.declared.charts.chart.Line.{Line}
use Rattle.chart_lines.specs.declared.charts.chart.Version.{Version}
use Rattle.chart_lines.specs.declared.charts.chart.Version.TheVariants.{First, Second}
use Rattle.chart_lines.specs.declared.charts.statement.Statement.{Statement}

-- how a version is written
abbrev pub version_text : Version → List ℕ
version_text First = codes "1"
version_text Second = codes "2"

-- a line `CHART407` with the version
abbrev pub IsFirstLine : Version → List ℕ → Type 0
IsFirstLine version line = IsTitleLine (codes "CHART407") (version_text version) line

-- what the tokens of a line say in a version: a form of both versions, or, in version 2, a total with the word COUPLED
pub data SaysIn : Version → List (List ℕ) → Said → Type 0 where
  in_both : {version : Version} {tokens : List (List ℕ)} {statement : Statement}
      → Says tokens statement → SaysIn version tokens (record { statement = statement; coupled = false })
  in_second : {tokens : List (List ℕ)} {statement : Statement}
      → SaysCoupled tokens statement → SaysIn Second tokens (record { statement = statement; coupled = true })

-- a line that is a form of a version, and what it says
pub record IsFormLine (version : Version) (line : List ℕ) (what : Said) : Type 0 where
  pub tokens : List (List ℕ)
  pub divided : HasTokens line tokens
  pub said : SaysIn version tokens what

-- the line of a number, as it stands in a chart
abbrev pub line_of : ℕ → Said → Line
line_of number said = record { number = number; statement = said.statement }

-- its number, where its total bears the word COUPLED
abbrev pub number_if_coupled : ℕ → Said → List ℕ
number_if_coupled number said = if said.coupled then number ∷ [] else []

-- the lines from a number on say this up to END, and bear the word COUPLED at these numbers: forms and empty lines, END, and
-- empty lines alone
pub data ReadsFrom (version : Version) : ℕ → List (List ℕ) → List Line → List ℕ → ℕ → Type 0 where
  empty_line : {number end : ℕ} {line : List ℕ} {lines : List (List ℕ)} {read : List Line} {coupled : List ℕ}
      → IsEmptyLine line → ReadsFrom version (suc number) lines read coupled end
      → ReadsFrom version number (line ∷ lines) read coupled end
  form_line : {number end : ℕ} {line : List ℕ} {lines : List (List ℕ)} {read : List Line} {coupled : List ℕ} {said : Said}
      → IsFormLine version line said → ReadsFrom version (suc number) lines read coupled end
      → ReadsFrom version number (line ∷ lines) (line_of number said ∷ read) (number_if_coupled number said ++ coupled) end
  end_line : {number : ℕ} {line : List ℕ} {lines : List (List ℕ)}
      → IsEndLine line → AllByRecursion IsEmptyLine lines → ReadsFrom version number (line ∷ lines) [] [] number

-- more than 500 lines, or a line of more than 200 bytes
abbrev pub IsTooLarge : List (List ℕ) → Type 0
IsTooLarge lines = IsLarger 500 200 lines

-- the text is a chart, and what it says
pub record Reads (bytes : List ℕ) (chart : Chart) : Type 0 where
  pub size : ¬ IsTooLarge (lines_of bytes)
  pub first : List ℕ
  pub others : List (List ℕ)
  pub lines : lines_of bytes ≡ first ∷ others
  pub begun : IsFirstLine chart.version first
  pub said : ReadsFrom chart.version 2 others chart.lines chart.coupled chart.end
