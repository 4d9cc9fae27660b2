-- What stands on a wheel of a total line: the characters of the one item of the chart that has the wheel, or a blank.
use Rattle.std.proofs.Common.{◌≡◌, ◌∙◌, refl, sym, ap, subst, ℕ, zero, suc, ◌+◌, ◌-◌, ◌<◌, ◌≤◌, ◌==◌, ◌&&◌, nat_le, nat_lt, cond, if◌then◌else◌, Bool, true, false, List, [], ◌∷◌, length, slice_index_or, Contains, Option, Some, None, option_map, arith}
use Rattle.std.specs.List.{filter_map, cons_option}
use Rattle.std.proofs.lemmas.Bool.Decides.{nat_tests}
use Rattle.std.proofs.lemmas.List.{length-map}
use Rattle.std.proofs.lemmas.List.FromFn.{length-range_with_len}
use Rattle.chart_rules.specs.Rules.{IsLawful}
use Rattle.chart_lines.specs.ChartsWords.Chart.{Chart}
use Rattle.chart_lines.specs.ChartsWords.Field.{columns_of, decimals_of}
use Rattle.chart_lines.specs.ChartsWords.Levels.{level_number}
use Rattle.chart_lines.specs.declared.charts.chart.Line.{Line}
use Rattle.chart_lines.specs.declared.charts.statement.BodyLine.TheVariants as body
use Rattle.chart_lines.specs.declared.charts.statement.Field.{Field}
use Rattle.chart_lines.specs.declared.charts.statement.Statement.{Statement}
use Rattle.chart_lines.specs.declared.charts.statement.Statement.TheVariants as says
use Rattle.chart_lines.specs.declared.charts.statement.TotalLine.{TotalLine}
use Rattle.chart_line_rules.specs.FieldRules.Fields.{field_named, fields_of}
use Rattle.chart_line_rules.specs.PrintRules.Items.{item_of, is_same_line, text_item, total_item}
use Rattle.chart_line_rules.specs.PrintRules.Wheels.{HasWheel, is_body}
use Rattle.chart_line_rules.specs.declared.print_rules.items.Item.{Item}
use Rattle.chart_line_rules.specs.declared.print_rules.items.PrintedLine.{PrintedLine}
use Rattle.chart_line_rules.specs.declared.print_rules.items.PrintedLine.TheVariants.{Heading, Body}
use Rattle.report_definition.proofs.EditLaws.{edits_fill}
use Rattle.report_definition.specs.Amounts.{columns_in}
use Rattle.report_definition.specs.BodyLines.{Piece, a_card_of, char_at, piece_at, text_on, total_piece}
use Rattle.report_definition.specs.Edits.{edited}
use Rattle.report_definition.specs.Totals.{total_of}
use Rattle.proof_reports.proofs.PrintedLines.LawfulItems.{figure-good}
use Rattle.proof_reports.proofs.PrintedLines.Meeting.{one-line}
use Rattle.proof_reports.proofs.PrintedLines.TotalLines.{on_total_line}
use Rattle.proof_laws.specs.LedgerAmounts.Figures.{figure_of}

-- a piece stands on a wheel
abbrev pub StandsOn : Piece → ℕ → Type 0
StandsOn piece wheel = (piece.wheel ≤ wheel) × (wheel < piece.wheel + length piece.text)

-- What is put on the total line of a level is an item of the chart, with all its characters.
pub record IsPieceOf (lines : List Line) (level : ℕ) (statement : Statement) (piece : Piece) : Type 0 where
  pub item : Item
  pub is_item : item_of (fields_of lines) statement ≡ Some item
  pub first : item.first ≡ piece.wheel
  pub end : item.end ≡ piece.wheel + length piece.text
  pub on : on_total_line level item.line ≡ true

total-amount : (chart : Chart) → IsLawful chart → (level : ℕ) (group : List (List ℕ)) (line : Line) → Contains chart.lines line
    → (asked : TotalLine) → line.statement ≡ says.TotalAmount asked → (piece : Piece)
    → total_piece chart.lines level group (says.TotalAmount asked) ≡ Some piece
    → IsPieceOf chart.lines level (says.TotalAmount asked) piece
total-amount chart lawful level group line there asked says_it piece put =
    by (level_number asked.level == level) (field_named chart.lines asked.name) refl refl put
  where
    by : (b : Bool) (o : Option Field) → (level_number asked.level == level) ≡ b → field_named chart.lines asked.name ≡ o
        → (if b
        then option_map (λ field. piece_at asked.wheel (edited (total_of field group) asked.digits (decimals_of field.kind) asked.mark)) o
        else None)
        ≡ Some piece
        → IsPieceOf chart.lines level (says.TotalAmount asked) piece
    by false o on named put = cc
    by true None on named put = cc
    by true (Some field) on named put =
        let is : piece_at asked.wheel (edited (total_of field group) asked.digits (decimals_of field.kind) asked.mark) ≡ piece = cc in
        let its : item_of (fields_of chart.lines) (says.TotalAmount asked) ≡ Some (total_item asked field.kind)
        = ap (option_map (λ f. total_item asked f.kind)) named in
        let good = figure-good chart lawful line (total_item asked field.kind) (figure_of asked field) there
        (ap (item_of (fields_of chart.lines)) says_it ∙ its) refl in
        subst (IsPieceOf chart.lines level (says.TotalAmount asked)) is
        (record {
          item = total_item asked field.kind;
          is_item = its;
          first = refl;
          end = ap (λ (n : ℕ). asked.wheel + n) (sym (edits_fill (total_of field group) (figure_of asked field) good.some good.decimals).0);
          on = on;
        })

pub piece-of : (chart : Chart) → IsLawful chart → (level : ℕ) (group : List (List ℕ)) (line : Line) → Contains chart.lines line
    → (statement : Statement) → line.statement ≡ statement → (piece : Piece)
    → total_piece chart.lines level group statement ≡ Some piece → IsPieceOf chart.lines level statement piece
piece-of chart lawful level group line there (says.TotalLiteral its_level wheel literal) says_it piece put =
    by (level_number its_level == level) refl put
  where
    by : (b : Bool) → (level_number its_level == level) ≡ b → (if b then Some (piece_at wheel literal) else None) ≡ Some piece
        → IsPieceOf chart.lines level (says.TotalLiteral its_level wheel literal) piece
    by false on put = cc
    by true on put =
        let is : piece_at wheel literal ≡ piece = cc in
        subst (IsPieceOf chart.lines level (says.TotalLiteral its_level wheel literal)) is
        (record { item = text_item (Body (body.Total its_level)) wheel (length literal); is_item = refl; first = refl; end = refl; on = on })
piece-of chart lawful level group line there (says.TotalText its_level wheel name) says_it piece put =
    by (level_number its_level == level) (field_named chart.lines name) refl refl put
  where
    by : (b : Bool) (o : Option Field) → (level_number its_level == level) ≡ b → field_named chart.lines name ≡ o
        → (if b then option_map (λ field. piece_at wheel (text_on (a_card_of group) field)) o else None) ≡ Some piece
        → IsPieceOf chart.lines level (says.TotalText its_level wheel name) piece
    by false o on named put = cc
    by true None on named put = cc
    by true (Some field) on named put =
        let is : piece_at wheel (text_on (a_card_of group) field) ≡ piece = cc in
        subst (IsPieceOf chart.lines level (says.TotalText its_level wheel name)) is
        (record {
          item = text_item (Body (body.Total its_level)) wheel (columns_of field);
          is_item = ap (option_map (λ f. text_item (Body (body.Total its_level)) wheel (columns_of f))) named;
          first = refl;
          end =
              ap (λ (n : ℕ). wheel + n)
              (sym (length-map (columns_in field) _ ∙ length-range_with_len field.first (columns_of field)));
          on = on;
        })
piece-of chart lawful level group line there (says.TotalAmount asked) says_it piece put =
    total-amount chart lawful level group line there asked says_it piece put
piece-of chart lawful level group line there other says_it piece put = cc

-- the total line of a level is one line
pub same-line : (level : ℕ) (first second : PrintedLine) → on_total_line level first ≡ true → on_total_line level second ≡ true
    → is_same_line first second ≡ true
same-line level (Body (body.Total one)) (Body (body.Total other)) on also = grind (arith, nat_tests, on, also)
same-line level other another on also = cc

pub body-line : (level : ℕ) (on : PrintedLine) → on_total_line level on ≡ true → is_body on ≡ true
body-line level (Body (body.Total its_level)) on = refl
body-line level (Body body.Detail) on = cc
body-line level (Heading heading) on = cc

-- an item has the wheels of its piece
pub piece-wheel : (lines : List Line) (level : ℕ) (statement : Statement) (piece : Piece) (its : IsPieceOf lines level statement piece)
    (wheel : ℕ) → StandsOn piece wheel → HasWheel its.item wheel
piece-wheel lines level statement piece its wheel (low, high) = (
  subst (λ (n : ℕ). n ≤ wheel) (sym its.first) low,
  subst (λ (n : ℕ). wheel < n) (sym its.end) high,
)

-- two pieces with a wheel in common are from one line of the chart
pub one-piece : (chart : Chart) → IsLawful chart → (level : ℕ) (group : List (List ℕ)) (line other : Line) (piece another : Piece) (wheel : ℕ)
    → Contains chart.lines line → Contains chart.lines other → total_piece chart.lines level group line.statement ≡ Some piece
    → total_piece chart.lines level group other.statement ≡ Some another → StandsOn piece wheel → StandsOn another wheel → line ≡ other
one-piece chart lawful level group line other piece another wheel there there_other put put_other on on_other =
    let its = piece-of chart lawful level group line there line.statement refl piece put in
    let second = piece-of chart lawful level group other there_other other.statement refl another put_other in
    one-line chart lawful line other its.item second.item wheel there there_other its.is_item second.is_item
    (same-line level its.item.line second.item.line its.on second.on) (same-line level second.item.line its.item.line second.on its.on)
    (piece-wheel chart.lines level line.statement piece its wheel on)
    (piece-wheel chart.lines level other.statement another second wheel on_other)

-- whether a piece stands on a wheel
abbrev covers : Piece → ℕ → Bool
covers piece wheel = nat_le piece.wheel wheel && nat_lt wheel (piece.wheel + length piece.text)

covers-true : (piece : Piece) (wheel : ℕ) → covers piece wheel ≡ true → StandsOn piece wheel
covers-true piece wheel test = (grind (arith, nat_tests, test), grind (arith, nat_tests, test))

covers-false : (piece : Piece) (wheel : ℕ) → covers piece wheel ≡ false → StandsOn piece wheel → ⊥
covers-false piece wheel test (low, high) = grind (arith, nat_tests, test, low, high)

later-one : (first : Line) (lines : List Line) (line : Line) → Contains lines line → Contains (first ∷ lines) line
later-one first lines line (k, within, is) = (suc k, omega (arith, within), is)

-- the character on a wheel is that of the one piece that stands there
pub on-own : (puts : Statement → Option Piece) (wheel : ℕ) (lines : List Line) (own : Line) (piece : Piece)
    → ((other : Line) (another : Piece) → Contains lines other → puts other.statement ≡ Some another → StandsOn another wheel → another ≡ piece)
    → Contains lines own → puts own.statement ≡ Some piece → StandsOn piece wheel
    → char_at (filter_map (λ line. puts line.statement) lines) wheel ≡ slice_index_or piece.text (wheel - piece.wheel) 32
on-own puts wheel [] own piece alone (k, within, is) put on = absurd (omega (arith, within))
on-own puts wheel (first ∷ lines) own piece alone there put on =
    by (puts first.statement) refl there
    (λ among. on-own puts wheel lines own piece (λ other another later. alone other another (later-one first lines other later)) among put on)
  where
    Rest : Type 0
    Rest = char_at (filter_map (λ line. puts line.statement) lines) wheel ≡ slice_index_or piece.text (wheel - piece.wheel) 32

    by : (o : Option Piece) → puts first.statement ≡ o → Contains (first ∷ lines) own → (Contains lines own → Rest)
        → char_at (cons_option o (filter_map (λ line. puts line.statement) lines)) wheel
        ≡ slice_index_or piece.text (wheel - piece.wheel) 32
    by None none (zero, within, is) rest =
        let equal : None ≡ Some piece = sym none ∙ ap (λ (l : Line). puts l.statement) is ∙ put in cc
    by None none (suc k, within, is) rest = rest (k, omega (arith, within), is)
    by (Some another) given there rest = by_test (covers another wheel) refl there
      where
        by_test : (b : Bool) → covers another wheel ≡ b → Contains (first ∷ lines) own
            → cond b (slice_index_or another.text (wheel - another.wheel) 32)
            (char_at (filter_map (λ line. puts line.statement) lines) wheel)
            ≡ slice_index_or piece.text (wheel - piece.wheel) 32
        by_test true test there =
            let same = alone first another (0, omega arith, refl) given (covers-true another wheel test) in
            ap (λ (p : Piece). slice_index_or p.text (wheel - p.wheel) 32) same
        by_test false test (zero, within, is) =
            let equal : Some another ≡ Some piece = sym given ∙ ap (λ (l : Line). puts l.statement) is ∙ put in
            let same : another ≡ piece = cc in
            absurd (covers-false another wheel test (subst (λ (p : Piece). StandsOn p wheel) (sym same) on))
        by_test false test (suc k, within, is) = rest (k, omega (arith, within), is)

-- and a wheel on which none stands is blank
pub on-none : (puts : Statement → Option Piece) (wheel : ℕ) (lines : List Line)
    → ((other : Line) (another : Piece) → Contains lines other → puts other.statement ≡ Some another → StandsOn another wheel → ⊥)
    → char_at (filter_map (λ line. puts line.statement) lines) wheel ≡ 32
on-none puts wheel [] none = refl
on-none puts wheel (first ∷ lines) none =
    by (puts first.statement) refl (on-none puts wheel lines (λ other another later. none other another (later-one first lines other later)))
  where
    by : (o : Option Piece) → puts first.statement ≡ o → char_at (filter_map (λ line. puts line.statement) lines) wheel ≡ 32
        → char_at (cons_option o (filter_map (λ line. puts line.statement) lines)) wheel ≡ 32
    by None is rest = rest
    by (Some another) given rest = by_test (covers another wheel) refl
      where
        by_test : (b : Bool) → covers another wheel ≡ b
            → cond b (slice_index_or another.text (wheel - another.wheel) 32)
            (char_at (filter_map (λ line. puts line.statement) lines) wheel)
            ≡ 32
        by_test true test = absurd (none first another (0, omega arith, refl) given (covers-true another wheel test))
        by_test false test = rest
