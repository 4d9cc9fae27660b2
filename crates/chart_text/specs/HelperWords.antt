-- A helper of the code: what the readers of single tokens answer, as functions of lists.
-- These are steps between the code and the grammar: no public clause speaks of them.
use Rattle.std.specs.Prelude.{ℕ, ◌-◌, ◌==◌, ◌&&◌, Bool, List, ◌++◌, length, Option, Some, None, if◌then◌else◌, nat_le, slice_index, slice_range, replicate, codes}
use Rattle.std.specs.List.{list_all}
use Rattle.std.specs.Str.{bytes_eq}
use Rattle.chart_lines.specs.TokensWords.NumberReading.{number_of}
use Rattle.chart_lines.specs.TokensWords.Steps.{◌>>=◌}
use Rattle.chart_lines.specs.ChartsWords.Name.{begins_with_letter}
use Rattle.chart_lines.specs.ChartsWords.Literal.{is_printable}
use Rattle.chart_lines.specs.ChartsWords.Levels.{level_with, control_with}
use Rattle.chart_lines.specs.ChartsWords.Headings.{heading_with}
use Rattle.chart_lines.specs.ChartsWords.Spacings.{spacing_with}
use Rattle.chart_lines.specs.declared.charts.heading.HeadingLine.{HeadingLine}
use Rattle.chart_lines.specs.declared.charts.level.ControlLevel.{ControlLevel}
use Rattle.chart_lines.specs.declared.charts.level.Level.{Level}
use Rattle.chart_lines.specs.declared.charts.spacing.Spacing.{Spacing}
use Rattle.chart_lines.specs.declared.charts.statement.Mark.{Mark}
use Rattle.chart_lines.specs.declared.charts.statement.Mark.TheVariants.{Credit, Minus}
use Rattle.chart_text.specs.declared.words.Keyword.{Keyword}
use Rattle.chart_text.specs.declared.words.Keyword.TheVariants as words

-- the name that a token is
unfoldable pub name_of : List ℕ → Option (List ℕ)
name_of token =
    if nat_le (length token) 8 && begins_with_letter token then Some
    (token ++ replicate (8 - length token) 32) else None

-- whether characters are those of a literal
abbrev pub is_literal_text : List ℕ → Bool
is_literal_text characters = nat_le 1 (length characters) && nat_le
    (length characters) 120 && list_all is_printable characters

-- the characters of the literal that a token is
unfoldable pub literal_of : List ℕ → Option (List ℕ)
literal_of token =
    if nat_le 2 (length token) && slice_index token 0 == 39 && slice_index token
    (length token - 1) == 39 && is_literal_text (slice_range token 1 (length token - 1))
    then Some (slice_range token 1 (length token - 1)) else None

-- the mark that a token is
abbrev pub mark_of : List ℕ → Option Mark
mark_of token = if bytes_eq token (codes "CR") then Some Credit else
    (if bytes_eq token (codes "-") then Some Minus else None)

-- the word that a form begins with
abbrev pub keyword_of : List ℕ → Option Keyword
keyword_of token =
    if bytes_eq token (codes "FIELD") then Some words.Field
    else (if bytes_eq token (codes "CONTROL") then Some words.Control
    else (if bytes_eq token (codes "PRINT") then Some words.Print
    else (if bytes_eq token (codes "HEAD") then Some words.Head
    else (if bytes_eq token (codes "DETAIL") then Some words.Detail
    else (if bytes_eq token (codes "TOTAL") then Some words.Total
    else (if bytes_eq token (codes "SPACE") then Some words.Space
    else (if bytes_eq token (codes "AFTER") then Some words.After
    else (if bytes_eq token (codes "FORM") then Some words.Form
    else (if bytes_eq token (codes "TAPE") then Some words.Tape else None)))))))))

-- the level that a token is
unfoldable pub level_of : List ℕ → Option Level
level_of token = do
  number ← number_of token
  level_with number

-- the control level that a token is
unfoldable pub control_level_of : List ℕ → Option ControlLevel
control_level_of token = do
  number ← number_of token
  control_with number

-- the heading line that a token is
unfoldable pub heading_line_of : List ℕ → Option HeadingLine
heading_line_of token = do
  number ← number_of token
  heading_with number

-- the spacing that a token is
unfoldable pub spacing_lines_of : List ℕ → Option Spacing
spacing_lines_of token = do
  number ← number_of token
  spacing_with number
