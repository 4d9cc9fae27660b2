-- A helper of the code: what the readers of forms answer, as functions of lists of tokens.
-- These are steps between the code and the grammar: no public clause speaks of them.
use Rattle.std.specs.Prelude.{ℕ, ◌&&◌, true, false, List, [], ◌∷◌, length, Option, Some, None, option_map, if◌then◌else◌, nat_le, codes}
use Rattle.std.specs.Str.{bytes_eq}
use Rattle.chart_lines.specs.TokensWords.NumberReading.{number_of, numbers_of}
use Rattle.chart_lines.specs.TokensWords.Steps.{◌>>=◌}
use Rattle.chart_text.specs.HelperWords.{name_of, literal_of, mark_of, keyword_of, level_of, control_level_of, heading_line_of, spacing_lines_of}
use Rattle.chart_lines.specs.declared.charts.statement.SignRule.{SignRule}
use Rattle.chart_lines.specs.declared.charts.statement.SignRule.TheVariants.{X, NX}
use Rattle.chart_lines.specs.declared.charts.statement.FieldKind.{FieldKind}
use Rattle.chart_lines.specs.declared.charts.statement.FieldKind.TheVariants as kinds
use Rattle.chart_lines.specs.declared.charts.statement.Printing.TheVariants as printings
use Rattle.chart_lines.specs.declared.charts.statement.Mark.{Mark}
use Rattle.chart_lines.specs.declared.charts.statement.BodyLine.{BodyLine}
use Rattle.chart_lines.specs.declared.charts.statement.BodyLine.TheVariants as lines
use Rattle.chart_lines.specs.declared.charts.statement.After.TheVariants.{Page, Skip}
use Rattle.chart_lines.specs.declared.charts.statement.DetailOption.{DetailOption}
use Rattle.chart_lines.specs.declared.charts.statement.DetailOption.TheVariants.{Plain, Indicated, Marked}
use Rattle.chart_lines.specs.declared.charts.statement.Statement.{Statement}
use Rattle.chart_lines.specs.declared.charts.statement.Statement.TheVariants as says
use Rattle.chart_lines.specs.declared.charts.chart.Version.{Version}
use Rattle.chart_lines.specs.declared.charts.chart.Version.TheVariants.{First, Second}
use Rattle.chart_text.specs.declared.forms.Said.{Said}
use Rattle.chart_text.specs.declared.words.Keyword.{Keyword}
use Rattle.chart_text.specs.declared.words.Keyword.TheVariants as words

-- the sign rule of an amount
unfoldable pub sign_of : List (List ℕ) → Option (Option SignRule)
sign_of [] = Some None
sign_of (word ∷ []) = None
sign_of (word ∷ column ∷ []) =
    if bytes_eq word (codes "X") then (do
      c ← number_of column
      Some (Some (X c)))
    else (if bytes_eq word (codes "NX") then (do
      c ← number_of column
      Some (Some (NX c))) else None)
sign_of (word ∷ column ∷ next ∷ others) = None

-- the mark of a total
unfoldable pub total_mark_of : List (List ℕ) → Option (Option Mark)
total_mark_of [] = Some None
total_mark_of (word ∷ []) = None
total_mark_of (word ∷ token ∷ []) =
    if bytes_eq word (codes "MARK") then (do
      mark ← mark_of token
      Some (Some mark))
    else None
total_mark_of (word ∷ token ∷ next ∷ others) = None

-- how a field stands on a card's line
unfoldable pub option_of : List (List ℕ) → Option DetailOption
option_of [] = Some Plain
option_of (word ∷ []) = None
option_of (word ∷ token ∷ []) =
    if bytes_eq word (codes "INDICATE") then (do
      level ← control_level_of token
      Some (Indicated level))
    else (if bytes_eq word (codes "MARK") then (do
      mark ← mark_of token
      Some (Marked mark)) else None)
option_of (word ∷ token ∷ next ∷ others) = None

-- the kind of body line that tokens begin with, and the tokens after it
unfoldable pub kind_of : List (List ℕ) → Option (BodyLine × List (List ℕ))
kind_of [] = None
kind_of (word ∷ []) = if bytes_eq word (codes "DETAIL") then Some (lines.Detail, []) else None
kind_of (word ∷ level ∷ others) =
    if bytes_eq word (codes "DETAIL") then Some (lines.Detail, level ∷ others)
    else (if bytes_eq word (codes "TOTAL") then (do
      l ← level_of level
      Some (lines.Total l, others)) else None)

-- what the columns of a field hold
unfoldable pub field_kind_of : List ℕ → List (List ℕ) → Option FieldKind
field_kind_of word [] = if bytes_eq word (codes "TEXT") then Some kinds.Text else None
field_kind_of word (decimals ∷ sign) =
    if bytes_eq word (codes "AMOUNT") then (do
      d ← number_of decimals
      rule ← sign_of sign
      Some (kinds.Amount d rule))
    else None

-- what tokens after `FIELD` say
unfoldable pub field_of : List (List ℕ) → Option Statement
field_of (name ∷ kind ∷ first ∷ last ∷ others) = do
  n ← name_of name
  a ← number_of first
  b ← number_of last
  k ← field_kind_of kind others
  Some (says.Field (record { name = n; first = a; last = b; kind = k }))
field_of _ = None

-- what tokens after `CONTROL` say
unfoldable pub control_of : List (List ℕ) → Option Statement
control_of (level ∷ name ∷ []) = do
  l ← control_level_of level
  n ← name_of name
  Some (says.Control l n)
control_of _ = None

-- what tokens after `PRINT` say
unfoldable pub print_of : List (List ℕ) → Option Statement
print_of (word ∷ []) =
    if bytes_eq word (codes "DETAIL") then Some (says.Print printings.Detail)
    else (if bytes_eq word (codes "GROUP") then Some (says.Print printings.Group) else None)
print_of _ = None

-- what tokens after `HEAD` say
unfoldable pub head_of : List (List ℕ) → Option Statement
head_of (line ∷ wheel ∷ literal ∷ []) = do
  h ← heading_line_of line
  w ← number_of wheel
  characters ← literal_of literal
  Some (says.Head h w characters)
head_of _ = None

-- what a literal on a card's line says
unfoldable pub detail_literal_of : List ℕ → List ℕ → List (List ℕ) → Option Statement
detail_literal_of wheel characters [] = do
  w ← number_of wheel
  Some (says.DetailLiteral w characters)
detail_literal_of wheel characters (next ∷ others) = None

-- what a field on a card's line says
unfoldable pub detail_field_of : List ℕ → List ℕ → List (List ℕ) → Option Statement
detail_field_of wheel name others = do
  w ← number_of wheel
  n ← name_of name
  option ← option_of others
  Some (says.DetailField w n option)

-- what an item of a card's line says, a literal where its token is one
abbrev pub detail_item_of : List ℕ → List ℕ → List (List ℕ) → Option (List ℕ) → Option Statement
detail_item_of wheel item others (Some characters) = detail_literal_of wheel characters others
detail_item_of wheel item others None = detail_field_of wheel item others

-- what tokens after `DETAIL` say
unfoldable pub detail_of : List (List ℕ) → Option Statement
detail_of (wheel ∷ item ∷ others) = detail_item_of wheel item others (literal_of item)
detail_of _ = None

-- what a literal on a total line says
unfoldable pub total_literal_of : List ℕ → List ℕ → List ℕ → List (List ℕ) → Option Statement
total_literal_of level wheel characters [] = do
  l ← level_of level
  w ← number_of wheel
  Some (says.TotalLiteral l w characters)
total_literal_of level wheel characters (next ∷ others) = None

-- what a total says
unfoldable pub total_amount_of : List ℕ → List ℕ → List ℕ → List ℕ → List (List ℕ) → Option Statement
total_amount_of level wheel name digits mark = do
  l ← level_of level
  w ← number_of wheel
  n ← name_of name
  g ← number_of digits
  m ← total_mark_of mark
  Some (says.TotalAmount (record { level = l; wheel = w; name = n; digits = g; mark = m }))

-- what a field on a total line says
unfoldable pub total_field_of : List ℕ → List ℕ → List ℕ → List (List ℕ) → Option Statement
total_field_of level wheel name [] = do
  l ← level_of level
  w ← number_of wheel
  n ← name_of name
  Some (says.TotalText l w n)
total_field_of level wheel name (digits ∷ mark) = total_amount_of level wheel name digits mark

-- what an item of a total line says, a literal where its token is one
abbrev pub total_item_of : List ℕ → List ℕ → List ℕ → List (List ℕ) → Option (List ℕ) → Option Statement
total_item_of level wheel item others (Some characters) = total_literal_of level wheel characters others
total_item_of level wheel item others None = total_field_of level wheel item others

-- what tokens after `TOTAL` say
unfoldable pub total_statement : List (List ℕ) → Option Statement
total_statement (level ∷ wheel ∷ item ∷ others) = total_item_of level wheel item others (literal_of item)
total_statement _ = None

-- the spacing of a kind of line
unfoldable pub spacing_of : BodyLine → List (List ℕ) → Option Statement
spacing_of line (count ∷ []) = do
  n ← spacing_lines_of count
  Some (says.Space line n)
spacing_of line _ = None

-- what tokens after `SPACE` say
unfoldable pub space_of : List (List ℕ) → Option Statement
space_of operands = do
  kind ← kind_of operands
  spacing_of kind.0 kind.1

-- what follows a kind of line
unfoldable pub follower_of : BodyLine → List (List ℕ) → Option Statement
follower_of line (word ∷ []) = if bytes_eq word (codes "PAGE") then Some (says.After line Page) else None
follower_of line (word ∷ channel ∷ []) =
    if bytes_eq word (codes "SKIP") then (do
      c ← number_of channel
      Some (says.After line (Skip c)))
    else None
follower_of line _ = None

-- what tokens after `AFTER` say
unfoldable pub after_of : List (List ℕ) → Option Statement
after_of operands = do
  kind ← kind_of operands
  follower_of kind.0 kind.1

-- what tokens after `FORM` say
unfoldable pub form_of : List (List ℕ) → Option Statement
form_of (size ∷ first ∷ overflow ∷ []) = do
  p ← number_of size
  t ← number_of first
  o ← number_of overflow
  Some (says.Form p t o)
form_of _ = None

-- 1 to 10 stops
unfoldable pub stops_of : List (List ℕ) → Option (List ℕ)
stops_of tokens = if nat_le 1 (length tokens) && nat_le (length tokens) 10 then numbers_of tokens else None

-- what tokens after `TAPE` say
unfoldable pub tape_of : List (List ℕ) → Option Statement
tape_of (channel ∷ stops) = do
  c ← number_of channel
  numbers ← stops_of stops
  Some (says.Tape c numbers)
tape_of _ = None

-- what tokens after a word say
abbrev pub said_after : Keyword → List (List ℕ) → Option Statement
said_after words.Field operands = field_of operands
said_after words.Control operands = control_of operands
said_after words.Print operands = print_of operands
said_after words.Head operands = head_of operands
said_after words.Detail operands = detail_of operands
said_after words.Total operands = total_statement operands
said_after words.Space operands = space_of operands
said_after words.After operands = after_of operands
said_after words.Form operands = form_of operands
said_after words.Tape operands = tape_of operands

-- what the tokens of a line say, where they are a form
unfoldable pub statement_of : List (List ℕ) → Option Statement
statement_of [] = None
statement_of (word ∷ operands) = do
  keyword ← keyword_of word
  said_after keyword operands

-- what the tokens of a total with the word COUPLED say, but for that word
unfoldable pub coupled_of : List (List ℕ) → Option Statement
coupled_of (total ∷ level ∷ wheel ∷ name ∷ digits ∷ word ∷ mark) =
    if bytes_eq total (codes "TOTAL") && bytes_eq word (codes "COUPLED") then total_amount_of level wheel name digits mark else None
coupled_of _ = None

-- what the tokens of a line say that are no form of both versions
abbrev pub said_coupled : Version → List (List ℕ) → Option Said
said_coupled First tokens = None
said_coupled Second tokens = option_map (λ statement. record { statement = statement; coupled = true }) (coupled_of tokens)

-- what the tokens of a line say, where these are a form of both versions
abbrev pub said_by : Version → List (List ℕ) → Option Statement → Option Said
said_by version tokens (Some statement) = Some (record { statement = statement; coupled = false })
said_by version tokens None = said_coupled version tokens

-- what the tokens of a line say in a version
unfoldable pub said_of : Version → List (List ℕ) → Option Said
said_of version tokens = said_by version tokens (statement_of tokens)
