-- Each item of a lawful chart shows its own characters on its wheels.
use Rattle.std.proofs.Common.{◌≡◌, ◌∙◌, refl, sym, ap, ap₂, ℕ, ◌+◌, ◌-◌, ◌<◌, ◌≤◌, ◌&&◌, Bool, true, false, not, List, [], ◌∷◌, ◌++◌, Contains, Option, Some, None, option_map, length, slice_index_or, nat_le, nat_lt, if◌then◌else◌, cond, arith}
use Rattle.std.specs.List.{cons_option, filter_map}
use Rattle.std.proofs.lemmas.Bool.{eqb-true}
use Rattle.std.proofs.lemmas.Bool.Decides.{nat_tests}
use Rattle.std.proofs.lemmas.Grind.{get_or_default_zero}
use Rattle.chart_lines.specs.ChartsWords.Headings.{heading_number}
use Rattle.chart_lines.specs.ChartsWords.Levels.{level_number}
use Rattle.chart_lines.specs.ChartsWords.Literals.{literal_in}
use Rattle.chart_lines.specs.declared.charts.chart.Line.{Line}
use Rattle.chart_lines.specs.declared.charts.statement.BodyLine.{BodyLine}
use Rattle.chart_lines.specs.declared.charts.statement.BodyLine.TheVariants as body
use Rattle.chart_lines.specs.declared.charts.statement.Statement.{Statement}
use Rattle.chart_line_rules.specs.FieldRules.Fields.{fields_of}
use Rattle.chart_line_rules.specs.FieldRules.Repeats.{is_same_body}
use Rattle.chart_line_rules.specs.PrintRules.Items.{is_same_line, item_of}
use Rattle.chart_line_rules.specs.PrintRules.Wheels.{is_off_wheels, meet, overlap}
use Rattle.chart_line_rules.specs.declared.print_rules.items.Item.{Item}
use Rattle.chart_line_rules.specs.declared.print_rules.items.PrintedLine.{PrintedLine}
use Rattle.chart_line_rules.specs.declared.print_rules.items.PrintedLine.TheVariants.{Heading, Body}
use Rattle.chart_rules.specs.declared.rule.Rule.TheVariants as rule
use Rattle.chart_rules.proofs.Laws.{breaks-lawful}
use Rattle.chart_lines.proofs.ChartsWords.Listed.{Place, listed-first, listed-after, listed-place}
use Rattle.report_definition.specs.BodyLines.{Piece, char_at, piece_at}
use Rattle.cli_sheets.specs.SheetsWords.Laws.{ItemsStandOnTheirWheels}
use Rattle.cli_sheets.specs.SheetsWords.Layout.{drawn, drawn_piece, item_on, only_on}
use Rattle.cli_sheets.proofs.SheetsWords.Drawing.{at-wheel}
use Rattle.cli_sheets.proofs.SheetsWords.Widths.{item-long}
use Rattle.chart_lines.proofs.ChartsWords.Listed.{none-any}

-- an item that stands on this line of the report is the line's item, and on this line
pub record IsOn (printed : PrintedLine) (of : Option Item) (item : Item) : Type 0 where
  pub is : of ≡ Some item
  pub same : is_same_line item.line printed ≡ true

is-on : (printed : PrintedLine) (of : Option Item) (item : Item) → only_on printed of ≡ Some item → IsOn printed of item
is-on printed None item on = absurd (let none : None ≡ Some item = on in cc)
is-on printed (Some other) item on = by (is_same_line other.line printed) refl on
  where
    by : (b : Bool) → is_same_line other.line printed ≡ b → (if b then Some other else None) ≡ Some item → IsOn printed (Some other) item
    by true test found =
        let same : other ≡ item = cc in record { is = found; same = sym (ap (λ (i : Item). is_same_line i.line printed) same) ∙ test }
    by false test found = absurd (let none : None ≡ Some item = found in cc)

-- two lines of the report that are this one are one
same-body : (one other this : BodyLine) → is_same_body one this ≡ true → is_same_body other this ≡ true → is_same_body one other ≡ true
same-body body.Detail body.Detail body.Detail first second = refl
same-body body.Detail (body.Total level) body.Detail first second = second
same-body (body.Total level) other body.Detail first second = absurd (let no : false ≡ true = first in cc)
same-body body.Detail other (body.Total level) first second = absurd (let no : false ≡ true = first in cc)
same-body (body.Total one) body.Detail (body.Total this) first second = second
same-body (body.Total one) (body.Total other) (body.Total this) first second =
    let a = eqb-true (level_number one) (level_number this) first in
    let b = eqb-true (level_number other) (level_number this) second in
    grind (arith, nat_tests, a, b)

same-line : (one other this : PrintedLine) → is_same_line one this ≡ true → is_same_line other this ≡ true → is_same_line one other ≡ true
same-line (Heading one) (Heading other) (Heading this) first second =
    let a = eqb-true (heading_number one) (heading_number this) first in
    let b = eqb-true (heading_number other) (heading_number this) second in
    grind (arith, nat_tests, a, b)
same-line (Body one) (Body other) (Body this) first second = same-body one other this first second
same-line (Heading one) (Body other) (Heading this) first second = second
same-line (Body one) (Heading other) (Body this) first second = second
same-line (Heading one) other (Body this) first second = absurd (let no : false ≡ true = first in cc)
same-line (Body one) other (Heading this) first second = absurd (let no : false ≡ true = first in cc)

-- whether a piece stands on a wheel
abbrev covers : Piece → ℕ → Bool
covers piece wheel = nat_le piece.wheel wheel && nat_lt wheel (piece.wheel + length piece.text)

-- no earlier piece stands there: the character is that of this piece
module _ (puts : Line → Option Piece) (line : Line) (later : List Line) (piece : Piece) (wheel : ℕ) (is : puts line ≡ Some piece)
    (on : covers piece wheel ≡ true) where
  pub own-character : (earlier : List Line)
      → ((other : Line) (its : Piece) → Contains earlier other → puts other ≡ Some its → covers its wheel ≡ false)
      → char_at (filter_map puts (earlier ++ line ∷ later)) wheel ≡ slice_index_or piece.text (wheel - piece.wheel) 32
  own-character [] none =
      ap (λ (p : Option Piece). char_at (cons_option p (filter_map puts later)) wheel) is
      ∙ ap (λ (b : Bool). cond b (slice_index_or piece.text (wheel - piece.wheel) 32) (char_at (filter_map puts later) wheel)) on
  own-character (other ∷ earlier) none =
      by (puts other) refl ∙ own-character earlier (λ next its there puts_it. none next its (listed-after other earlier there) puts_it)
    where
      rest : List Piece
      rest = filter_map puts (earlier ++ line ∷ later)

      by : (p : Option Piece) → puts other ≡ p → char_at (cons_option (puts other) rest) wheel ≡ char_at rest wheel
      by None puts_it = ap (λ (p : Option Piece). char_at (cons_option p rest) wheel) puts_it
      by (Some its) puts_it =
          ap (λ (p : Option Piece). char_at (cons_option p rest) wheel) puts_it
          ∙ ap (λ (b : Bool). cond b (slice_index_or its.text (wheel - its.wheel) 32) (char_at rest wheel))
          (none other its (listed-first other earlier) puts_it)

-- an item that keeps apart from another doesn't stand on its wheels
apart : (one other : Item) (long : ℕ) (wheel : ℕ) → one.first + long ≡ one.end → (is_same_line one.line other.line && meet one other) ≡ false
    → is_same_line one.line other.line ≡ true → other.first ≤ wheel → wheel < other.end
    → (nat_le one.first wheel && nat_lt wheel (one.first + long)) ≡ false
apart one other long wheel wide none same from to = by (is_same_line one.line other.line) same none
  where
    by : (b : Bool) → b ≡ true → (b && meet one other) ≡ false → (nat_le one.first wheel && nat_lt wheel (one.first + long)) ≡ false
    by true is keeps = grind (arith, nat_tests, wide, keeps, from, to)
    by false is keeps = absurd (let no : false ≡ true = is in cc)

-- the piece of an item
pub record PieceOf (lines : List Line) (printed : PrintedLine) (statement : Statement) (piece : Piece) : Type 0 where
  pub item : Item
  pub on : item_on lines printed statement ≡ Some item
  pub is : piece ≡ piece_at item.first (drawn (literal_in statement) item)

piece-of : (lines : List Line) (printed : PrintedLine) (statement : Statement) (piece : Piece)
    → drawn_piece lines printed statement ≡ Some piece → PieceOf lines printed statement piece
piece-of lines printed statement piece puts_it = by (item_on lines printed statement) refl puts_it
  where
    by : (o : Option Item) → item_on lines printed statement ≡ o
        → option_map (λ item. piece_at item.first (drawn (literal_in statement) item)) o ≡ Some piece
        → PieceOf lines printed statement piece
    by None on found = absurd (let none : None ≡ Some piece = found in cc)
    by (Some item) on found =
        let same : piece ≡ piece_at item.first (drawn (literal_in statement) item) = cc in record { item = item; on = on; is = same }

on-wheels : (item : Item) → not (nat_le 1 item.first && nat_le item.end 121) ≡ false → (1 ≤ item.first) × (item.end ≤ 121)
on-wheels item kept = (grind (arith, nat_tests, kept), grind (arith, nat_tests, kept))

pub items-stand : ItemsStandOnTheirWheels
items-stand chart printed line item lawful there on = record {
  from = range.0;
  to = range.1;
  long = long;
  each = λ k less.
      let wheel = item.first + k in
      let before : item.first + k - 1 < 120 = omega (arith, range.0, range.1, long, less) in
      let next : item.first + k - 1 + 1 ≡ wheel = omega (arith, range.0) in
      let behind : wheel - item.first ≡ k = omega arith in
      at-wheel pieces (item.first + k - 1) before ∙ ap (char_at pieces) next
      ∙ ap (λ (ls : List Line). char_at (filter_map puts ls) wheel) place.parts
      ∙ own-character puts line place.later piece wheel
      (ap (option_map (λ i. piece_at i.first (drawn (literal_in line.statement) i))) on)
      (let a : item.first ≤ wheel = omega arith in let b : wheel < item.first + length characters = omega (arith, less) in
      grind (arith, nat_tests, a, b)) place.earlier (others wheel (omega arith) (omega (arith, less, long)))
      ∙ ap (λ (n : ℕ). slice_index_or characters n 32) behind
      ∙ get_or_default_zero characters k 32 less;
}
  where
    its : IsOn printed (item_of (fields_of chart.lines) line.statement) item
    its = is-on printed (item_of (fields_of chart.lines) line.statement) item on

    place : Place chart.lines line
    place = listed-place line chart.lines there

    characters : List ℕ
    characters = drawn (literal_in line.statement) item

    piece : Piece
    piece = piece_at item.first characters

    puts : Line → Option Piece
    puts l = drawn_piece chart.lines printed l.statement

    pieces : List Piece
    pieces = filter_map puts chart.lines

    long : item.first + length characters ≡ item.end
    long = item-long (fields_of chart.lines) line.statement item its.is

    range : (1 ≤ item.first) × (item.end ≤ 121)
    range = on-wheels item (ap is_off_wheels (sym its.is) ∙ breaks-lawful rule.WheelRange chart place.earlier line place.later lawful place.parts)

    others : (wheel : ℕ) → item.first ≤ wheel → wheel < item.end → (other : Line) (its_piece : Piece) → Contains place.earlier other
        → puts other ≡ Some its_piece → covers its_piece wheel ≡ false
    others wheel from to other its_piece among puts_it =
        let fields = fields_of chart.lines in
        let of = piece-of chart.lines printed other.statement its_piece puts_it in
        let its_own = is-on printed (item_of fields other.statement) of.item of.on in
        let none : overlap (Some of.item) (Some item) ≡ false
        = sym (ap₂ overlap its_own.is its.is)
        ∙ none-any (λ l. overlap (item_of fields l.statement) (item_of fields line.statement)) place.earlier other
        (breaks-lawful rule.WheelOverlap chart place.earlier line place.later lawful place.parts) among in
        ap (λ (p : Piece). covers p wheel) of.is
        ∙ apart of.item item (length (drawn (literal_in other.statement) of.item)) wheel
        (item-long fields other.statement of.item its_own.is) none (same-line of.item.line item.line printed its_own.same its.same) from to
