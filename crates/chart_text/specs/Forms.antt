-- The forms of a chart: what the tokens of a line say.
use Rattle.std.specs.Prelude.{◌≡◌, ℕ, ◌≤◌, List, [], ◌∷◌, ◌++◌, length, Option, Some, None, codes}
use Rattle.chart_lines.specs.TokensWords.Number.{IsNumber, AreNumbers}
use Rattle.chart_lines.specs.ChartsWords.Name.{IsName}
use Rattle.chart_lines.specs.ChartsWords.Literal.{IsLiteralText}
use Rattle.chart_lines.specs.ChartsWords.Levels.{level_number, control_number}
use Rattle.chart_lines.specs.ChartsWords.Headings.{heading_number}
use Rattle.chart_lines.specs.ChartsWords.Spacings.{spacing_number}
use Rattle.chart_lines.specs.declared.charts.heading.HeadingLine.{HeadingLine}
use Rattle.chart_lines.specs.declared.charts.level.ControlLevel.{ControlLevel}
use Rattle.chart_lines.specs.declared.charts.level.Level.{Level}
use Rattle.chart_lines.specs.declared.charts.spacing.Spacing.{Spacing}
use Rattle.chart_lines.specs.declared.charts.statement.SignRule.{SignRule}
use Rattle.chart_lines.specs.declared.charts.statement.SignRule.TheVariants.{X, NX}
use Rattle.chart_lines.specs.declared.charts.statement.FieldKind.TheVariants as kinds
use Rattle.chart_lines.specs.declared.charts.statement.Printing.TheVariants as printings
use Rattle.chart_lines.specs.declared.charts.statement.Mark.{Mark}
use Rattle.chart_lines.specs.declared.charts.statement.Mark.TheVariants.{Credit, Minus}
use Rattle.chart_lines.specs.declared.charts.statement.BodyLine.{BodyLine}
use Rattle.chart_lines.specs.declared.charts.statement.BodyLine.TheVariants as lines
use Rattle.chart_lines.specs.declared.charts.statement.After.TheVariants.{Page, Skip}
use Rattle.chart_lines.specs.declared.charts.statement.DetailOption.{DetailOption}
use Rattle.chart_lines.specs.declared.charts.statement.DetailOption.TheVariants.{Plain, Indicated, Marked}
use Rattle.chart_lines.specs.declared.charts.statement.Statement.{Statement}
use Rattle.chart_lines.specs.declared.charts.statement.Statement.TheVariants as says
use Rattle.chart_lines.specs.declared.charts.statement.TotalLine.{TotalLine}

-- the token is the literal of these characters
pub record IsLiteral (token characters : List ℕ) : Type 0 where
  pub text : IsLiteralText characters
  pub spelled : token ≡ 39 ∷ (characters ++ 39 ∷ [])

-- the sign rule of an amount: nothing, `X c` or `NX c`
pub data SaysSign : List (List ℕ) → Option SignRule → Type 0 where
  unsigned : SaysSign [] None
  by_row : {column : List ℕ} {c : ℕ} → IsNumber column c → SaysSign (codes "X" ∷ column ∷ []) (Some (X c))
  by_absence : {column : List ℕ} {c : ℕ} → IsNumber column c → SaysSign (codes "NX" ∷ column ∷ []) (Some (NX c))

-- the two marks
pub data IsMark : List ℕ → Mark → Type 0 where
  credit : IsMark (codes "CR") Credit
  minus : IsMark (codes "-") Minus

-- the mark of a total: nothing, or `MARK m`
pub data SaysMark : List (List ℕ) → Option Mark → Type 0 where
  unmarked : SaysMark [] None
  total_marked : {token : List ℕ} {m : Mark} → IsMark token m → SaysMark (codes "MARK" ∷ token ∷ []) (Some m)

-- how a field stands on a card's line: nothing, `INDICATE l` or `MARK m`
pub data SaysOption : List (List ℕ) → DetailOption → Type 0 where
  as_it_is : SaysOption [] Plain
  indicated : {level : List ℕ} {l : ControlLevel} → IsNumber level (control_number l) → SaysOption (codes "INDICATE" ∷ level ∷ []) (Indicated l)
  item_marked : {token : List ℕ} {m : Mark} → IsMark token m → SaysOption (codes "MARK" ∷ token ∷ []) (Marked m)

-- a kind of body line: `DETAIL` or `TOTAL l`
pub data SaysKind : List (List ℕ) → BodyLine → Type 0 where
  detail_line : SaysKind (codes "DETAIL" ∷ []) lines.Detail
  total_line : {level : List ℕ} {l : Level} → IsNumber level (level_number l) → SaysKind (codes "TOTAL" ∷ level ∷ []) (lines.Total l)

-- the forms, and what each says
pub data Says : List (List ℕ) → Statement → Type 0 where
  text_field : {name first last n : List ℕ} {a b : ℕ} → IsName name n → IsNumber first a → IsNumber last b
      → Says (codes "FIELD" ∷ name ∷ codes "TEXT" ∷ first ∷ last ∷ [])
      (says.Field (record { name = n; first = a; last = b; kind = kinds.Text }))
  amount_field : {name first last decimals n : List ℕ} {sign : List (List ℕ)} {a b d : ℕ} {rule : Option SignRule}
      → IsName name n → IsNumber first a → IsNumber last b → IsNumber decimals d → SaysSign sign rule
      → Says (codes "FIELD" ∷ name ∷ codes "AMOUNT" ∷ first ∷ last ∷ decimals ∷ sign)
      (says.Field (record { name = n; first = a; last = b; kind = kinds.Amount d rule }))
  control : {level name n : List ℕ} {l : ControlLevel} → IsNumber level (control_number l) → IsName name n
      → Says (codes "CONTROL" ∷ level ∷ name ∷ []) (says.Control l n)
  print_detail : Says (codes "PRINT" ∷ codes "DETAIL" ∷ []) (says.Print printings.Detail)
  print_group : Says (codes "PRINT" ∷ codes "GROUP" ∷ []) (says.Print printings.Group)
  head : {line wheel literal characters : List ℕ} {h : HeadingLine} {w : ℕ} → IsNumber line (heading_number h) → IsNumber wheel w
      → IsLiteral literal characters
      → Says (codes "HEAD" ∷ line ∷ wheel ∷ literal ∷ []) (says.Head h w characters)
  detail_literal : {wheel literal characters : List ℕ} {w : ℕ} → IsNumber wheel w → IsLiteral literal characters
      → Says (codes "DETAIL" ∷ wheel ∷ literal ∷ []) (says.DetailLiteral w characters)
  detail_field : {wheel name n : List ℕ} {option : List (List ℕ)} {w : ℕ} {how : DetailOption}
      → IsNumber wheel w → IsName name n → SaysOption option how
      → Says (codes "DETAIL" ∷ wheel ∷ name ∷ option) (says.DetailField w n how)
  total_literal : {level wheel literal characters : List ℕ} {l : Level} {w : ℕ}
      → IsNumber level (level_number l) → IsNumber wheel w → IsLiteral literal characters
      → Says (codes "TOTAL" ∷ level ∷ wheel ∷ literal ∷ []) (says.TotalLiteral l w characters)
  total_text : {level wheel name n : List ℕ} {l : Level} {w : ℕ} → IsNumber level (level_number l) → IsNumber wheel w → IsName name n
      → Says (codes "TOTAL" ∷ level ∷ wheel ∷ name ∷ []) (says.TotalText l w n)
  total_amount : {level wheel name digits : List ℕ} {mark : List (List ℕ)} {total : TotalLine}
      → IsNumber level (level_number total.level) → IsNumber wheel total.wheel → IsName name total.name
      → IsNumber digits total.digits → SaysMark mark total.mark
      → Says (codes "TOTAL" ∷ level ∷ wheel ∷ name ∷ digits ∷ mark) (says.TotalAmount total)
  space : {kind : List (List ℕ)} {count : List ℕ} {line : BodyLine} {n : Spacing} → SaysKind kind line → IsNumber count (spacing_number n)
      → Says (codes "SPACE" ∷ (kind ++ count ∷ [])) (says.Space line n)
  page_after : {kind : List (List ℕ)} {line : BodyLine} → SaysKind kind line
      → Says (codes "AFTER" ∷ (kind ++ codes "PAGE" ∷ [])) (says.After line Page)
  skip_after : {kind : List (List ℕ)} {channel : List ℕ} {line : BodyLine} {c : ℕ} → SaysKind kind line
      → IsNumber channel c
      → Says (codes "AFTER" ∷ (kind ++ codes "SKIP" ∷ channel ∷ [])) (says.After line (Skip c))
  form : {size first overflow : List ℕ} {p t o : ℕ} → IsNumber size p → IsNumber first t → IsNumber overflow o
      → Says (codes "FORM" ∷ size ∷ first ∷ overflow ∷ []) (says.Form p t o)
  tape : {channel : List ℕ} {stops : List (List ℕ)} {c : ℕ} {numbers : List ℕ}
      → IsNumber channel c → AreNumbers stops numbers → 1 ≤ length numbers → length numbers ≤ 10
      → Says (codes "TAPE" ∷ channel ∷ stops) (says.Tape c numbers)

-- a total with the word COUPLED after its digits, which version 2 has, and what it says but for that word
pub data SaysCoupled : List (List ℕ) → Statement → Type 0 where
  coupled_amount : {level wheel name digits : List ℕ} {mark : List (List ℕ)} {total : TotalLine}
      → IsNumber level (level_number total.level) → IsNumber wheel total.wheel → IsName name total.name
      → IsNumber digits total.digits → SaysMark mark total.mark
      → SaysCoupled (codes "TOTAL" ∷ level ∷ wheel ∷ name ∷ digits ∷ codes "COUPLED" ∷ mark) (says.TotalAmount total)
